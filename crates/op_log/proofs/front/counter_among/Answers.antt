use Rattle.std.proofs.Common.{ℕ, ◌<◌, List, length, Some, sym, ap, ◌∙◌, arith}
use Rattle.std.specs.List.{zip}
use Rattle.std.proofs.lemmas.Slice.Zip.{get_or-zip}
use Rattle.doc_rules.proofs.WholeFront.{rising_from_ascending}
use Rattle.op_log.proofs.Fronts.{get_by-place, get_by-gap, get_by-entry_of}
use Rattle.op_log.proofs.Pairs.{place_found, gap_found}
use Rattle.op_log.proofs.front.counter_among.Goals as goal

pub returns-in-Ok : goal.returns-in-Ok
returns-in-Ok c =
    let names = c.args.names.now in
    let counters = c.args.counters.now in
    let at = c.in-Ok.at in
    let named : at < length names = c.in-Ok.ensures.bound in
    let counted : at < length counters = omega (arith, c.requires.len, named) in
    let first : List ℕ × ℕ = (c.args.name, 0) in
    ap Some c.at.ensures ∙ ap Some (sym (ap (λ (e : List ℕ × ℕ). e.1) (get_or-zip names counters at first named counted)))
    ∙ sym
    (get_by-place (zip names counters) c.args.name at first (rising_from_ascending (zip names counters) c.requires.ascending)
    (place_found names counters c.requires.len c.requires.ascending c.args.name at named c.in-Ok.ensures.position))
    ∙ get_by-entry_of (zip names counters) c.args.name

pub returns-in-Err : goal.returns-in-Err
returns-in-Err c =
    let names = c.args.names.now in
    let counters = c.args.counters.now in
    sym
    (get_by-gap (zip names counters) c.args.name c.in-Err.field-0
    (gap_found names counters c.requires.len c.requires.ascending c.args.name c.in-Err.field-0 c.in-Err.ensures.bound c.in-Err.ensures.position))
    ∙ get_by-entry_of (zip names counters) c.args.name
