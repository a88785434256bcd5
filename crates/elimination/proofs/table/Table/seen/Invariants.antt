use Rattle.std.proofs.Common.{◌≡◌, ◌^◌, ◌<◌, vec_items}
use Rattle.elimination.specs.Reduction.{lists}
use Rattle.elimination.specs.Tables.{seen_set}
use Rattle.elimination.proofs.table.Table.seen.Given as goal

abbrev pub invariant-loop-m : goal.invariant-loop-m
invariant-loop-m l = (l.seen ≡ seen_set (lists (vec_items l.self.rows)) l.m) × (l.seen < 2 ^ l.m)
