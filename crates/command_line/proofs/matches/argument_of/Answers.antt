use Rattle.std.proofs.Common.{[], refl}
use Rattle.command_line.proofs.Asked.{text_is}
use Rattle.command_line.proofs.matches.argument_of.Goals as goal

pub returns : goal.returns
returns c = text_is c.args.matches.now c.args.id.now c.unwrap_or.result _ c.get_str.result [] c.unwrap_or.ensures c.get_str.ensures refl
