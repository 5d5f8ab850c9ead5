-- What the queries of whole tables answer.
use Rattle.std.proofs.Common.{◌≡◌, ℕ, zero, suc, ◌+◌, ◌<◌, List, [], ◌∷◌, length, get_or, map, refl, sym, ap, subst, ◌∙◌, arith}
use Rattle.std.specs.List.Sorted.{IsPermutation, IsSorted}
use Rattle.std.specs.declared.cmp.Ordering.{Ordering}
use Rattle.std.proofs.lemmas.List.Elements.{recursion_from_All, All-from_recursion}
use Rattle.std.proofs.lemmas.List.Sorted.{IsPermutation-map, All-permutation}
use Rattle.std.specs.List.{flat_map, AllByRecursion}
use Rattle.std.proofs.lemmas.List.{length-map, get_or-map}
use Rattle.sqlite_value.specs.declared.keys.Key.{Key}
use Rattle.sqlite.specs.Order.{Row}
use Rattle.sqlite.specs.Tree.{Trees}
use Rattle.sqlite.specs.Term.{Term, eval_all}
use Rattle.sqlite.specs.Query.{Output, IsAnswer, output, output_cmp, key_cmp}
use Rattle.sqlite.specs.Program.{overlay}
use Rattle.sqlite.specs.State.{State, Shown}
use Rattle.sqlite.specs.declared.types.Value.TheVariants.{Null}
use Rattle.sqlite.proofs.Callers.{reads_as}
use Rattle.stored_rows.specs.Tables.{copy_schema}
use Rattle.stored_rows.specs.Content.{meta_tree, meta_columns, meta_cmp}
use Rattle.stored_rows.proofs.TextLemmas.{whole_table, read_meta_text, read_meta_query, read_meta_is}

at : {X : Type 0} (P : X → Type 0) (xs : List X) (k : ℕ) (d : X) → k < length xs → AllByRecursion P xs → P (get_or xs k d)
at P [] k d below all = absurd (omega arith)
at P (x ∷ xs) zero d below all = all.0
at P (x ∷ xs) (suc k) d below all = at P xs k d (omega arith) all.1

-- what is sorted by one order is sorted by another that agrees with it
sorted_by : {X Y : Type 0} (cmp : X → X → Ordering) (other : Y → Y → Ordering) (f : X → Y) (P : X → Type 0) → ((x y : X) → P x → P y → other (f x) (f y) ≡ cmp x y)
    → (xs : List X) → AllByRecursion P xs → IsSorted cmp xs → IsSorted other (map f xs)
sorted_by cmp other f P same [] all sorted k d low within = absurd (omega arith)
sorted_by cmp other f P same (x ∷ xs) all sorted k d low within =
    let inside : k + 1 < length (x ∷ xs) = rw length-map at within in
    let first = at P (x ∷ xs) k x (omega arith) all in
    let second = at P (x ∷ xs) (k + 1) x inside all in
    rw (get_or-map f (x ∷ xs) (k + 1) x d inside, get_or-map f (x ∷ xs) k x d (omega arith), same _ _ second first) (sorted k x low inside)

module _ (tree : ℕ) (project : List Term) (order : List (Term × Key)) where
  abbrev shows : Row → Row
  shows r = eval_all project ([] ∷ r ∷ [])

  -- an answer is made of some row
  abbrev IsMade : Output → Type 0
  IsMade o = (r : Row) × (o ≡ output (whole_table tree project order) ([] ∷ r ∷ []))

  each_made : (rows : List Row) → AllByRecursion IsMade (map (output (whole_table tree project order)) (flat_map (λ r. ([] ∷ r ∷ []) ∷ []) rows))
  each_made [] = tt
  each_made (r ∷ rows) = ((r, refl), each_made rows)

  each_once : (rows : List Row) → map (λ (o : Output). o.1) (map (output (whole_table tree project order)) (flat_map (λ r. ([] ∷ r ∷ []) ∷ []) rows)) ≡ map shows rows
  each_once [] = refl
  each_once (r ∷ rows) = ap (λ z. shows r ∷ z) (each_once rows)

  -- each row of the table is answered once
  pub answers_whole : (trees : Trees) (rows : List Row) → IsAnswer (whole_table tree project order) trees [] rows → IsPermutation (map shows (trees tree)) rows
  answers_whole trees rows a =
      let q = whole_table tree project order in
      let kept : a.kept ≡ map (output q) (flat_map (λ r. ([] ∷ r ∷ []) ∷ []) (trees tree)) = a.distinct ∙ ap (map (output q)) a.grouped in
      let moved = IsPermutation-map (λ (o : Output). o.1) a.kept a.ordered a.same in
      subst (λ z. IsPermutation z rows) (ap (map (λ (o : Output). o.1)) kept ∙ each_once (trees tree)) (subst (IsPermutation (map (λ (o : Output). o.1) a.kept)) (sym a.shown) moved)

  -- in the order that was asked for, which the rows show too
  pub sorted_whole : (cmp : Row → Row → Ordering) → ((r s : Row) → cmp (shows r) (shows s) ≡ key_cmp 0 (map (λ k. k.1) order) (eval_all (map (λ k. k.0) order) ([] ∷ r ∷ [])) (eval_all (map (λ k. k.0) order) ([] ∷ s ∷ [])))
      → (trees : Trees) (rows : List Row) → IsAnswer (whole_table tree project order) trees [] rows → IsSorted cmp rows
  sorted_whole cmp same trees rows a =
      let q = whole_table tree project order in
      let kept : a.kept ≡ map (output q) (flat_map (λ r. ([] ∷ r ∷ []) ∷ []) (trees tree)) = a.distinct ∙ ap (map (output q)) a.grouped in
      let made = subst (AllByRecursion IsMade) (sym kept) (each_made (trees tree)) in
      let ordered = recursion_from_All IsMade a.ordered (All-permutation IsMade a.kept a.ordered a.same (All-from_recursion IsMade a.kept made)) in
      subst (IsSorted cmp) (sym a.shown) (sorted_by (output_cmp q) cmp (λ (o : Output). o.1) IsMade (λ x y of_x of_y. rw (of_x.1, of_y.1) (same of_x.0 of_y.0)) a.ordered ordered a.sorted)

pub reads_meta : (old new : State) (rows : List Row) → Shown read_meta_text [] old new rows → old.now.schema ≡ copy_schema → IsPermutation (map meta_columns (old.now.trees meta_tree)) rows
reads_meta old new rows h has =
    let read = reads_as read_meta_text [] old new copy_schema has _ read_meta_is.0 read_meta_is.1 read_meta_is.2 rows h in
    answers_whole 0 read_meta_query.project read_meta_query.order (overlay old.now.trees []) rows (read.answer Null)

pub sorts_meta : (old new : State) (rows : List Row) → Shown read_meta_text [] old new rows → old.now.schema ≡ copy_schema → IsSorted meta_cmp rows
sorts_meta old new rows h has =
    let read = reads_as read_meta_text [] old new copy_schema has _ read_meta_is.0 read_meta_is.1 read_meta_is.2 rows h in
    sorted_whole 0 read_meta_query.project read_meta_query.order meta_cmp (λ r s. refl) (overlay old.now.trees []) rows (read.answer Null)
