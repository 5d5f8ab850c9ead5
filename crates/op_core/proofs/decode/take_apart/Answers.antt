use Rattle.std.proofs.Common.{codes, refl, sym, ◌∙◌}
use Rattle.serde_json.specs.Find.{as_str}
use Rattle.serde_json.specs.View.{view}
use Rattle.op_core.proofs.Readings.{spelled}
use Rattle.op_core.specs.PartsData.{parts_data}
use Rattle.op_core.proofs.decode.take_apart.Goals as goal

pub returns-in_err-as_array : goal.returns-in_err-as_array
returns-in_err-as_array c = rw (c.from_residual.ensures, ← c.as_array.ensures, c.in_err-as_array.was) refl

pub returns-in_err-tag : goal.returns-in_err-tag
returns-in_err-tag c =
    rw (c.from_residual-in_err-tag.ensures, ← c.as_array.ensures, c.in_ok-as_array.was, ← c.as_slice.ensures.value, ← c.five.ensures, c.in_err-tag.was) refl

pub returns-then-spells : goal.returns-then-spells
returns-then-spells c =
    rw (← c.as_array.ensures, c.in_ok-as_array.was, ← c.as_slice.ensures.value, ← c.five.ensures, c.in_ok-tag.was)
    (sym (spelled (as_str (view c.in_ok-tag.tag.now)) (codes "op") (parts_data c.in_ok-tag.parts) ∙ rw (← c.spells.ensures, c.if-spells.true) refl))

pub returns-else-spells : goal.returns-else-spells
returns-else-spells c =
    rw (← c.as_array.ensures, c.in_ok-as_array.was, ← c.as_slice.ensures.value, ← c.five.ensures, c.in_ok-tag.was)
    (sym (spelled (as_str (view c.in_ok-tag.tag.now)) (codes "op") (parts_data c.in_ok-tag.parts) ∙ rw (← c.spells.ensures, c.if-spells.false) refl))
