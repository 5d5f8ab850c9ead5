use Rattle.std.proofs.Common.{List, inl, inr, refl, ap, subst}
use Rattle.doc_api.specs.Words.{Op}
use Rattle.doc_api.specs.declared.ask.Query.TheVariants as query
use Rattle.doc_api.specs.declared.reply.Reply.TheVariants as reply
use Rattle.doc_rules.specs.Answers.{MayAnswer}
use Rattle.replica_core.specs.Whole.{replica_of}
use Rattle.replica_core.proofs.Lacking.{answered}
use Rattle.replica_core.proofs.body.Body.chains.Goals as goal

pub returns-in-Ok : goal.returns-in-Ok
returns-in-Ok c name mine =
    subst (λ (l : List Op). MayAnswer (replica_of name l c.args.self.now.held) mine (query.Chains c.args.after.now c.args.front.now) (reply.Chains c.in-Ok.text)) c.log.ensures.log
    (inl (ap (λ x. reply.Chains x) (answered c.in-Ok.ensures)))

pub returns-in-Err : goal.returns-in-Err
returns-in-Err c name mine = inr refl
