use Rattle.std.proofs.Common.{◌∙◌, ap, sym}
use Rattle.std.specs.Ordering.{nat_cmp, is_lt}
use Rattle.std.specs.Cmp.Lexicographic.{slice_cmp}
use Rattle.key_map.specs.KeyOrder.{key_cmp}
use Rattle.key_map.proofs.KeyOrder.{text_lt}
use Rattle.key_map.proofs.blocks.is_lesser_key.Goals as goal

pub returns-in-Text-Text : goal.returns-in-Text-Text
returns-in-Text-Text c =
    c.is_lesser_text.ensures
    ∙ ap (λ l. is_lt (slice_cmp nat_cmp l c.as_str-in-Text-Text.result.now)) c.as_str.ensures
    ∙ ap (λ l. is_lt (slice_cmp nat_cmp c.in-Text-Text.x l)) c.as_str-in-Text-Text.ensures
    ∙ text_lt c.in-Text-Text.x c.in-Text-Text.y
    ∙ (λ i. is_lt (key_cmp (sym c.in-Text-Text.is-0 i) (sym c.in-Text-Text.is-1 i)))
