use mathlib.Core.Path.{refl}
use Rattle.std.proofs.Common.{[], arith}
use Rattle.json_text.specs.Json.{names}
use Rattle.json_text.specs.declared.names.TheConstants.{NAMES}
use Rattle.json_text.proofs.KindNames.{name_is, name_none}
use Rattle.json_text.proofs.names.name_of.Goals as goal

pub returns-in-Some : goal.returns-in-Some
unfolding names
returns-in-Some c = name_is NAMES c.args.kind (0, []) _ c.spelled.ensures (c.in-Some.ensures.lookup.3.1 (0, [])) refl (omega (arith, c.in-Some.ensures.lookup.3.0))

pub returns-in-None : goal.returns-in-None
returns-in-None c = name_none _ (omega (arith, c.in-None.ensures.lookup.3))
