use Rattle.std.proofs.Common.{codes, refl, sym, ap, subst, ◌∙◌}
use Rattle.command_line.specs.CommandLine.{IsBacklog, is_given, pace_of}
use Rattle.command_line.proofs.Asked.{text_is}
use Rattle.command_line.proofs.parse.pace_in.Goals as goal

pub returns-in-Some : goal.returns-in-Some
returns-in-Some c =
    let backlog_is = text_is c.args.matches.now (codes "backlog") c.unwrap_or.result _ c.get_str.result (codes "4096") c.unwrap_or.ensures c.get_str.ensures refl in
    record {
      most = c.in-Some.backlog;
      behind = subst (λ t. IsBacklog t c.in-Some.backlog) backlog_is c.in-Some.ensures;
      paced = c.pace_of.ensures ∙ ap (λ t. pace_of (is_given t) c.in-Some.backlog) c.argument_of.ensures;
    }

pub returns-in-None : goal.returns-in-None
returns-in-None c = λ pace says.
    let backlog_is = text_is c.args.matches.now (codes "backlog") c.unwrap_or.result _ c.get_str.result (codes "4096") c.unwrap_or.ensures c.get_str.ensures refl in
    c.in-None.ensures says.most (subst (λ t. IsBacklog t says.most) (sym backlog_is) says.behind)
