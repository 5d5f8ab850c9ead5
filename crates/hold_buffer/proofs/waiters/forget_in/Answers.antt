use Rattle.std.proofs.Common.{◌≡◌, ◌∙◌, [], List, ℕ, Contains, rules, refl, sym, subst, set, get_or}
use Rattle.std.proofs.lemmas.List.{get_or_default}
use Rattle.hold_buffer.proofs.Keys.{row_kept, other_kept}
use Rattle.hold_buffer.proofs.waiters.forget_in.Goals as goal

pub returns : goal.returns
returns c n k other =
    let rows = c.args.rows.now.items in
    let row = c.index_mut-row.result.now in
    let here : row ≡ get_or rows c.args.at row = search rules in
    let is : row ≡ get_or rows c.args.at [] = here ∙ get_or_default rows c.args.at row [] c.requires in
    row_kept rows (set rows c.args.at c.forget.new.self) c.args.at c.forget.new.self k c.requires refl
    (λ there.
    subst (λ (l : List ℕ). Contains l k) (sym c.forget.ensures) (other_kept row c.args.key k other (subst (λ (l : List ℕ). Contains l k) (sym is) there))) n
