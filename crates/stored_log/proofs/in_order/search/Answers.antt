use Rattle.std.proofs.Common.{◌≡◌, ◌≢◌, ◌<◌, length, get_or, true≢false, ap, sym, ◌∙◌, arith}
use Rattle.std.proofs.lemmas.List.{get_or_default}
use Rattle.std.proofs.lemmas.Slice.Eq.{bytes_eq-Decides}
use Rattle.stored_log.specs.Docs.{Doc}
use Rattle.stored_log.proofs.InOrder.{gap_there}
use Rattle.stored_log.proofs.in_order.search.Goals as goal
use Rattle.stored_log.proofs.in_order.search.Goals.{else-at-docs-via-then-at-docs+else-eq, else-at-docs-via-else-at-docs}

pub returns-then-eq : goal.returns-then-eq
returns-then-eq c =
    let docs = c.args.docs.now in
    let at = c.rank-at.result in
    let found = c.index-docs-at.result in
    let same = (bytes_eq-Decides c.name.result.now c.args.name.now).0 (sym c.eq.ensures ∙ c.if-eq.true) in
    record {
      within = c.if-at-docs.true;
      has_key = λ d. ap (λ (e : Doc). e.name) (get_or_default docs at d found c.if-at-docs.true ∙ sym c.index-docs-at.is) ∙ sym c.name.ensures ∙ same;
    }

pub returns-else-at-docs : goal.returns-else-at-docs
returns-else-at-docs c =
    let docs = c.args.docs.now in
    let name = c.args.name.now in
    let at = c.rank-at.result in
    let other : (d : Doc) → at < length docs → (get_or docs at d).name ≢ name =
    elim c.else-at-docs.branch [
      | else-at-docs-via-then-at-docs+else-eq w ↦ (λ d below named.
          let found = w.index-docs-at.result in
          let item : get_or docs at d ≡ found = get_or_default docs at d found below ∙ sym w.index-docs-at.is in
          let same = w.name.ensures ∙ sym (ap (λ (e : Doc). e.name) item) ∙ named in
          true≢false (sym ((bytes_eq-Decides w.name.result.now name).1 same) ∙ sym w.eq.ensures ∙ w.if-eq.false))
      | else-at-docs-via-else-at-docs w ↦ (λ d below. absurd (omega (arith, below, w.if-at-docs.false)))
    ] in
    gap_there docs name at c.requires c.rank-at.ensures.point c.rank-at.ensures.within other
