use Rattle.elimination.specs.Tables.{held}
use Rattle.elimination.proofs.Tabling.{sound_at}
use Rattle.relay.proofs.Passing.{fetched}
use Rattle.relay.proofs.Relay.fetch.Goals as goal

pub returns : goal.returns
returns g c =
    let s = c.in_ok-started.started.now in
    let o = g.F.Field.ops s.field in
    let laws = g.met.F.Field.lawful s.field in
    let found = c.in_ok-started.ensures in
    rw found.found
    (fetched o laws (held s.table) (sound_at found.fits s.table.sound) s.table.shape.some_symbols c.args.packet c.args.buffer.now c.fetch.result c.fetch.new.buffer c.fetch.ensures)
