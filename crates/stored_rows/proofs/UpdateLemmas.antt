-- What the UPDATE of one number of `meta` makes of the tables.
use Rattle.std.proofs.Common.{◌≡◌, ◌≢◌, ℕ, ℤ, pos, ◌⊎◌, inl, inr, List, [], ◌∷◌, map, codes, None, Ok, refl, sym, ap, subst, ◌∙◌, arith, Ordering, Less, Equal, Greater, false}
use Rattle.std.specs.List.Sorted.{IsPermutation}
use Rattle.std.specs.Ordering.{is_eq, int_cmp}
use Rattle.std.proofs.lemmas.List.Sorted.{IsPermutation-map, IsPermutation-trans, IsPermutation-middle}
use Rattle.std.proofs.lemmas.Cmp.{tied_itself}
use Rattle.std.proofs.lemmas.Map.Lookups.{exact_signed}
use Rattle.sqlite_value.proofs.OrderLemmas.{value_cmp_total, value_cmp-Int}
use Rattle.sqlite.specs.declared.types.Value.TheVariants.{Null, Int, Text}
use Rattle.sqlite_value.specs.Order.{Row, column, value_cmp}
use Rattle.sqlite.specs.Query.{IsAnswer, matches, output, page, Output}
use Rattle.sqlite.specs.Program.{overlay}
use Rattle.sqlite_rules.specs.Calls.{ids_of}
use Rattle.sqlite.specs.Ops.{binary}
use Rattle.sqlite.specs.Tree.{Trees, put_row, without_rowid}
use Rattle.sqlite.specs.Command.TheVariants.{Update}
use Rattle.sqlite.specs.Edit.{Edit, edit_of, edited, is_taken}
use Rattle.sqlite.specs.Rowids.TheVariants.{Given}
use Rattle.sqlite.specs.Does.{Tally, Does}
use Rattle.sqlite.specs.Rows.{Written}
use Rattle.sqlite.specs.Effect.{Database}
use Rattle.sqlite.specs.State.{State, mode_of}
use Rattle.sqlite.proofs.Callers.{one_step, one_permutation}
use Rattle.stored_rows.specs.Tables.{copy_schema}
use Rattle.stored_rows.specs.Content.{HasPair, meta_tree, entry_tree, meta_columns, meta_row}
use Rattle.stored_rows.proofs.TextLemmas.{set_query}
use Rattle.stored_rows.proofs.TextRowLemmas.{meta_table, two_orders, two_mapped, went, same_value, put_row_moves, cast_int}

abbrev pub the_params : ℕ → Row
the_params value = Int (pos value) ∷ []

-- the table has these two rows, in either order
abbrev AreRows : Row → Row → List Row → Type 0
AreRows x y rows = (rows ≡ x ∷ y ∷ []) ⊎ (rows ≡ y ∷ x ∷ [])

-- WHERE takes the row of this name, whichever comes first
abbrev Sees : List ℕ → List ℕ → Type 0
Sees name other = (value : ℕ) (db : Trees) (x y : Row) → AreRows x y (db meta_tree) → column x 1 ≡ Text other → column y 1 ≡ Text name
    → matches (overlay db []) (set_query name).filter (set_query name).from (the_params value ∷ []) ≡ (the_params value ∷ y ∷ []) ∷ []

pub sees_epoch : Sees (codes "epoch") (codes "format")
unfolding binary value_cmp lib.Ieee.is_nan lib.Ieee.lt
sees_epoch value db x y (inl rows) at_other named = rw (rows, at_other, named) refl
sees_epoch value db x y (inr rows) at_other named = rw (rows, at_other, named) refl

pub sees_format : Sees (codes "format") (codes "epoch")
unfolding binary value_cmp lib.Ieee.is_nan lib.Ieee.lt
sees_format value db x y (inl rows) at_other named = rw (rows, at_other, named) refl
sees_format value db x y (inr rows) at_other named = rw (rows, at_other, named) refl

apart_test : (a b : ℤ) → a ≢ b → is_eq (value_cmp (Int a) (Int b)) ≡ false
apart_test a b apart = rw (value_cmp-Int a b) (go (int_cmp a b) refl)
  where
    go : (o : Ordering) → int_cmp a b ≡ o → is_eq o ≡ false
    go Less e = refl
    go Equal e = absurd (apart (exact_signed a b e))
    go Greater e = refl

abbrev the_edit : Trees → List Row → Edit
the_edit db found = edit_of db meta_table (ids_of found) Given 1 found

leaves : (rows : List Row) (x y : Row) (a b : ℤ) → a ≢ b → AreRows x y rows → column x 0 ≡ Int a → column y 0 ≡ Int b → without_rowid b rows ≡ x ∷ []
leaves rows x y a b apart (inl is) at_x at_y = rw (is, at_x, at_y, apart_test a b apart, tied_itself value_cmp_total (Int b)) refl
leaves rows x y a b apart (inr is) at_x at_y = rw (is, at_x, at_y, apart_test a b apart, tied_itself value_cmp_total (Int b)) refl

-- the value of this name is set, and nothing else
pub record Sets (name other : List ℕ) (value at_other : ℕ) (now after : Database) : Type 0 where
  pub schema : after.schema ≡ copy_schema
  pub meta : HasPair other name at_other value (after.trees meta_tree)
  pub entry : after.trees entry_tree ≡ now.trees entry_tree

module _ (name other : List ℕ) (sees : Sees name other) where
  abbrev the_stored : ℤ → ℕ → Row
  the_stored id value = meta_row id name value

  -- so the query answers the new row, behind the rowid of the old one
  answers : (value : ℕ) (db : Trees) (x y : Row) (id : ℤ) (before : ℕ) (found : List Row) → AreRows x y (db meta_tree) → column x 1 ≡ Text other → meta_columns y ≡ the_stored id before
      → IsAnswer (set_query name) (overlay db []) (the_params value) found → found ≡ (Int id ∷ the_stored id value) ∷ []
  answers value db x y id before found rows at_other stored a =
      let staged : a.staged ≡ (the_params value ∷ y ∷ []) ∷ [] = a.grouped ∙ sees value db x y rows at_other (let e = stored in cc) in
      let o : Output = ([], Int id ∷ the_stored id value) in
      let rowid_is : column y 0 ≡ Int id = let e = stored in cc in
      let name_is : column y 1 ≡ Text name = let e = stored in cc in
      let shown : output (set_query name) (the_params value ∷ y ∷ []) ≡ o = rw (rowid_is, name_is) refl in
      let kept : a.kept ≡ o ∷ [] = a.distinct ∙ ap (map (output (set_query name))) staged ∙ ap (λ z. z ∷ []) shown in
      let ordered = one_permutation o a.ordered (subst (λ k. IsPermutation k a.ordered) kept a.same) in
      a.shown ∙ ap (λ xs. page (set_query name) (the_params value) (map (λ (p : Output). p.1) xs)) ordered

  writes : (db : Trees) (x y : Row) (a b : ℤ) (value : ℕ) (found : List Row) → a ≢ b → AreRows x y (db meta_tree) → column x 0 ≡ Int a → column y 0 ≡ Int b
      → found ≡ (Int b ∷ the_stored b value) ∷ [] → edited db (the_edit db found) ≡ put_row (the_stored b value) (x ∷ [])
  writes db x y a b value found apart rows at_x at_y is = ap (λ f. edited db (the_edit db f)) is ∙ rw (leaves (db meta_tree) x y a b apart rows at_x at_y, cast_int b, cast_int (pos value)) refl

  module _ (at_other before value : ℕ) (db : Trees) (found : List Row) (held : HasPair other name at_other before (db meta_tree))
      (a : IsAnswer (set_query name) (overlay db []) (the_params value) found) where
    after : (x y : Row) → AreRows x y (db meta_tree) → meta_columns x ≡ meta_row held.id other at_other → meta_columns y ≡ meta_row held.other_id name before
        → HasPair other name at_other value (edited db (the_edit db found))
    after x y rows x_is y_is =
        let new = the_stored held.other_id value in
        let at_x : column x 0 ≡ Int held.id = let e = x_is in cc in
        let at_y : column y 0 ≡ Int held.other_id = let e = y_is in cc in
        let named : column x 1 ≡ Text other = let e = x_is in cc in
        let is = answers value db x y held.other_id before found rows named y_is a in
        let free : is_taken (x ∷ []) new ≡ false = rw (at_x, apart_test held.id held.other_id held.apart) refl in
        let moved = IsPermutation-map meta_columns (new ∷ x ∷ []) (put_row new (x ∷ [])) (put_row_moves new (x ∷ []) free) in
        let swapped = subst (λ z. IsPermutation (z ∷ new ∷ []) (new ∷ meta_columns x ∷ [])) x_is (IsPermutation-middle (meta_columns x ∷ []) new []) in
        record {
          id = held.id;
          other_id = held.other_id;
          apart = held.apart;
          rows_are = subst (λ r. IsPermutation (meta_row held.id other at_other ∷ new ∷ []) (map meta_columns r)) (sym (writes db x y held.id held.other_id value found held.apart rows at_x at_y is))
              (IsPermutation-trans _ _ _ swapped moved);
        }

    holds_after : HasPair other name at_other value (edited db (the_edit db found))
    holds_after =
        let p = meta_row held.id other at_other in
        let q = meta_row held.other_id name before in
        elim (two_orders p q (map meta_columns (db meta_tree)) held.rows_are) [
          | inl is ↦ let m = two_mapped meta_columns (db meta_tree) p q is in after m.0 m.1 (inl m.2) m.3 m.4
          | inr is ↦ let m = two_mapped meta_columns (db meta_tree) q p is in after m.1 m.0 (inr m.2) m.4 m.3
        ]

  pub updates : (s : State) (at_other before value : ℕ) (statement : List ℕ) (tally : Tally) (after : Database) → s.now.schema ≡ copy_schema → HasPair other name at_other before (s.now.trees meta_tree)
      → Does s.step_limit (mode_of s) (the_params value) s.now statement None (Update 0 (record { lets = []; body = set_query name })) (Ok (tally, after)) → Sets name other value at_other s.now after
  updates s at_other before value statement tally after has held does =
      let params = the_params value in
      let db = s.now.trees in
      let command = Update 0 (record { lets = []; body = set_query name }) in
      let done = went (subst (λ z. Does s.step_limit (mode_of s) params (record s.now { schema = z }) statement None command (Ok (tally, after))) has does) in
      let now = ap (λ (p : Tally × Database). p.1) (same_value (went (went done.2).2).2) in
      let found = went done.1 in
      let a : IsAnswer (set_query name) (overlay db []) params found.0 = found.1.answer Null in
      let written = went found.2 in
      let trees : done.0.trees ≡ written.0 = ap (λ (it : Written). it.trees) (same_value written.2) in
      let step = one_step copy_schema _ db written.0 (edit_of db meta_table (ids_of found.0) Given 1 found.0) refl written.1 in
      record {
        schema = ap (λ (d : Database). d.schema) now;
        meta = subst (HasPair other name at_other value) (sym (ap (λ (d : Database). d.trees meta_tree) now ∙ ap (λ (t : Trees). t meta_tree) trees ∙ step.rows)) (holds_after at_other before value db found.0 held a);
        entry = ap (λ (d : Database). d.trees entry_tree) now ∙ ap (λ (t : Trees). t entry_tree) trees ∙ step.tables.1.0 (λ e. absurd (omega arith));
      }

-- ---- the two numbers

flipped : (name other : List ℕ) (value at_other : ℕ) (rows : List Row) → HasPair name other value at_other rows → HasPair other name at_other value rows
flipped name other value at_other rows held = record {
  id = held.other_id;
  other_id = held.id;
  apart = λ e. held.apart (sym e);
  rows_are = IsPermutation-trans _ _ _ (IsPermutation-middle (meta_row held.other_id other at_other ∷ []) (meta_row held.id name value) []) held.rows_are;
}

abbrev pub Epochs : Database → ℕ → ℕ → Database → Type 0
Epochs now format epoch after =
    (after.schema ≡ copy_schema) × HasPair (codes "format") (codes "epoch") format epoch (after.trees meta_tree) × (after.trees entry_tree ≡ now.trees entry_tree)

pub sets_epoch : (s : State) (format before epoch : ℕ) (statement : List ℕ) (tally : Tally) (after : Database) → s.now.schema ≡ copy_schema
    → HasPair (codes "format") (codes "epoch") format before (s.now.trees meta_tree)
    → Does s.step_limit (mode_of s) (the_params epoch) s.now statement None (Update 0 (record { lets = []; body = set_query (codes "epoch") })) (Ok (tally, after)) → Epochs s.now format epoch after
sets_epoch s format before epoch statement tally after has held does =
    let sets = updates (codes "epoch") (codes "format") sees_epoch s format before epoch statement tally after has held does in (sets.schema, sets.meta, sets.entry)

pub sets_format : (s : State) (before format epoch : ℕ) (statement : List ℕ) (tally : Tally) (after : Database) → s.now.schema ≡ copy_schema
    → HasPair (codes "format") (codes "epoch") before epoch (s.now.trees meta_tree)
    → Does s.step_limit (mode_of s) (the_params format) s.now statement None (Update 0 (record { lets = []; body = set_query (codes "format") })) (Ok (tally, after)) → Epochs s.now format epoch after
sets_format s before format epoch statement tally after has held does =
    let sets = updates (codes "format") (codes "epoch") sees_format s epoch before format statement tally after has (flipped _ _ _ _ _ held) does in
    (sets.schema, flipped _ _ _ _ _ sets.meta, sets.entry)
