use Rattle.std.proofs.Common.{rules}
use Rattle.json_text.proofs.Fields.{sixth_none, sixth_base}
use Rattle.json_text.proofs.writer.Writer.base.Goals as goal

pub returns-then-has_base : goal.returns-then-has_base
returns-then-has_base c = search (rules, sixth_base)

pub returns-else-has_base : goal.returns-else-has_base
returns-else-has_base c = search (rules, sixth_none)
