use Rattle.std.proofs.Common.{◌-◌, ◌<◌, length, vec_items, arith}
use Rattle.elimination.specs.Tables.{held}
use Rattle.elimination.proofs.Accepting.{packet_passed}
use Rattle.elimination.proofs.Tabling.{read}
use Rattle.elimination.proofs.table.Table.fetch.Goals as goal

pub copy_from_slice-requires : goal.copy_from_slice-requires
copy_from_slice-requires c =
    let t = c.args.self.now in
    let k = c.args.packet in
    let asked = packet_passed (held t) k (length c.args.buffer.now) c.in_ok-check_packet.ensures in
    let h : k - 1 < t.shape.packets = omega (arith, asked.first, asked.last) in
    let r = read (vec_items t.rows) t.sound (k - 1) h c.index.ensures _ c.as_slice-row.ensures.value in
    omega (arith, r.long, asked.long, c.split_at.ensures.back_len)
