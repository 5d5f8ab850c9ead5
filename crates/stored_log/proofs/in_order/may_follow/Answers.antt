use Rattle.std.proofs.Common.{sym, ◌∙◌, true≢false, eqb-true, eq-eqb}
use Rattle.stored_log.proofs.in_order.may_follow.Goals as goal

pub returns-then-is_doc_name : goal.returns-then-is_doc_name
returns-then-is_doc_name c = (
  (λ same. (sym c.is_doc_name.ensures ∙ c.if-is_doc_name.true, eqb-true c.args.from c.count.result same ∙ c.count.ensures)),
  (λ behind. eq-eqb c.args.from c.count.result (behind.1 ∙ sym c.count.ensures)),
)

pub returns-else-is_doc_name : goal.returns-else-is_doc_name
returns-else-is_doc_name c = (
  (λ named. absurd (true≢false (sym named ∙ c.if-is_doc_name.false))),
  (λ behind. absurd (true≢false (sym behind.0 ∙ sym c.is_doc_name.ensures ∙ c.if-is_doc_name.false))),
)
