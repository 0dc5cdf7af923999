use Rattle.std.proofs.Common.{refl}
use Rattle.json_text.proofs.Writing.{put_some, put_none}
use Rattle.json_text.proofs.writer.Writer.put.Goals as goal

pub returns-in-Some : goal.returns-in-Some
returns-in-Some c = put_some c.in-Some.is c.copied-self.ensures refl c.copied-self.auto.out

pub returns-in_default : goal.returns-in_default
returns-in_default c = put_none c.in_default.is
