use Rattle.std.proofs.Common.{ℕ, MatchOption, refl, subst}
use Rattle.command_line.specs.CommandLine.{IsSeconds}
use Rattle.command_line.proofs.Asked.{text_is}
use Rattle.command_line.proofs.parse.seconds_in.Goals as goal

pub returns : goal.returns
returns c =
    subst (λ t. MatchOption c.seconds_of.result ((n : ℕ) → IsSeconds t n → ⊥) (IsSeconds t))
    (text_is c.args.matches.now c.args.id.now c.unwrap_or.result _ c.get_str.result c.args.default.now c.unwrap_or.ensures c.get_str.ensures refl) c.seconds_of.ensures
