use Rattle.std.proofs.Common.{◌∷◌, [], sym, ap, ◌∙◌, get_or}
use Rattle.std.proofs.lemmas.Slice.Eq.{bytes_eq-Decides}
use Rattle.stored_rows.proofs.ListLemmas.{list_of_one}
use Rattle.stored_rows.proofs.schema.is_one_key.Goals as goal

pub returns : goal.returns
returns c = (
  λ same.
      list_of_one c.args.keys.now c.only-item.result c.in-len1.len_at_least c.in-len1.len_below c.only-item.is
      ∙ ap (λ k. k ∷ []) (sym c.as_slice.ensures ∙ (bytes_eq-Decides c.as_slice.result.now c.args.key.now).0 (sym c.eq.ensures ∙ same)),
  λ is. c.eq.ensures ∙ (bytes_eq-Decides c.as_slice.result.now c.args.key.now).1 (c.as_slice.ensures ∙ c.only-item.is ∙ ap (λ k. get_or k 0 c.only-item.result) is),
)
