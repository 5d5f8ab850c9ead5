use Rattle.std.proofs.Common.{sym, ◌∙◌}
use Rattle.version_vector.proofs.FrontPairs.{same_names}
use Rattle.version_vector.proofs.front.share.Goals as goal

pub put_in_place-requires : goal.put_in_place-requires
put_in_place-requires c =
    sym c.as_slice.ensures.value
    ∙ sym (same_names c.as_slice.result.now c.as_slice-then-strong_count-eq1.result.now (sym c.have_equal_names.ensures ∙ c.if-have_equal_names.true))
    ∙ c.as_slice-then-strong_count-eq1.ensures.value
