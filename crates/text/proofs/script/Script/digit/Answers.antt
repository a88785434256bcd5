use Rattle.std.proofs.Common.{◌≡◌, arith}
use Rattle.std.proofs.lemmas.Grind.{common_steps}
use Rattle.text.specs.Tables.{number_at}
use Rattle.text.specs.Scripts.{script_lines}
use Rattle.text.proofs.script.Script.digit.Goals as goal

-- the numbers of a script are digits
pub overflow_cast-result : goal.overflow_cast-result
overflow_cast-result c =
    let e : c.unwrap_or-digit.result ≡ number_at (script_lines c.args.self.now) c.args.line c.args.field = grind (arith, common_steps) in
    let few = c.args.self.now.digits c.args.line c.args.field in
    omega arith
