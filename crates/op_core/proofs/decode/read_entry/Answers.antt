use Rattle.std.proofs.Common.{option_map, refl, sym, ap, ◌∙◌}
use Rattle.serde_json.specs.View.{view}
use Rattle.op_core.proofs.Readings.{pair_of_id, entry_as_id}
use Rattle.op_core.proofs.decode.read_entry.Goals as goal

pub returns-in_err-id : goal.returns-in_err-id
returns-in_err-id c =
    rw (c.from_residual-in_err-id.ensures)
    (ap (option_map pair_of_id) (sym c.in_err-id.was ∙ c.id_of_parts.ensures) ∙ sym (entry_as_id (view c.in_ok-name.name.now) (view c.in_ok-name.counter.now))
    ∙ rw (← c.pair.ensures, c.in_ok-name.was) refl)

pub returns : goal.returns
returns c =
    ap (option_map pair_of_id) (sym c.in_ok-id.was ∙ c.id_of_parts.ensures) ∙ sym (entry_as_id (view c.in_ok-name.name.now) (view c.in_ok-name.counter.now))
    ∙ rw (← c.pair.ensures, c.in_ok-name.was) refl
