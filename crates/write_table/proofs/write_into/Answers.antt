use Rattle.std.specs.Prelude.{Err}
use Rattle.base.specs.declared.Refusal.TheVariants.{TooManyLogicals}
use mathlib.Core.Path.{refl}
use Rattle.write_rules.proofs.Said.{into-six}
use Rattle.write_table.proofs.write_into.Goals as goal

pub returns-then-t-gt-LOGICALS : goal.returns-then-t-gt-LOGICALS
returns-then-t-gt-LOGICALS c =
    let both = into-six (Err TooManyLogicals) c.args.t.now c.args.out.now _ c.args.x.now c.args.t.now c.if-t-gt-LOGICALS.true refl refl refl in
    record { said = both.0; table = both.1.0; left = both.1.1 }
