use Rattle.std.proofs.Common.{◌≡◌, ◌∙◌, [], List, ℕ, Contains, rules, refl, sym, subst, set, get_or}
use Rattle.std.proofs.lemmas.List.{get_or_default}
use Rattle.std.proofs.lemmas.Result.{on_ok_weaker}
use Rattle.hold_buffer.proofs.Keys.{row_kept, row_written}
use Rattle.hold_buffer.proofs.waiters.note_in.Goals as goal

pub returns-clause-kept : goal.returns-clause-kept
returns-clause-kept c n k =
    let rows = c.args.rows.now.items in
    let row = c.index_mut-row.result.now in
    let here : row ≡ get_or rows c.args.at row = search rules in
    let is : row ≡ get_or rows c.args.at [] = here ∙ get_or_default rows c.args.at row [] c.requires in
    row_kept rows (set rows c.args.at c.note.new.self) c.args.at c.note.new.self k c.requires refl
    (λ there. c.note.ensures.kept k (subst (λ (l : List ℕ). Contains l k) (sym is) there)) n

pub returns-clause-noted : goal.returns-clause-noted
returns-clause-noted c =
    let rows = c.args.rows.now.items in
    on_ok_weaker c.note.result
    (λ there.
    subst (λ (l : List ℕ). Contains l c.args.key) (sym (row_written rows (set rows c.args.at c.note.new.self) c.args.at c.note.new.self c.requires refl)) there)
    c.note.ensures.noted
