-- What an INSERT of entries makes of the tables.
use Rattle.std.proofs.Common.{◌≡◌, ◌+◌, ◌/◌, ℕ, ℤ, pos, Bool, true, false, not, ◌&&◌, List, [], ◌∷◌, ◌++◌, map, drop, length, None, Ok, refl, sym, ap, subst, ◌∙◌, append-nil, append_assoc, arith}
use Rattle.std.specs.List.Sorted.{IsPermutation}
use Rattle.std.proofs.lemmas.List.Sorted.{IsPermutation-map, IsPermutation-trans, IsPermutation-cons, IsPermutation-to_front}
use Rattle.sqlite.specs.declared.types.Value.TheVariants.{Null, Int}
use Rattle.sqlite.specs.Tree.{Trees, put_row}
use Rattle.sqlite.specs.Term.{Term}
use Rattle.sqlite.specs.Cast.{cast_row}
use Rattle.sqlite.specs.Order.{Row}
use Rattle.sqlite.specs.Source.TheVariants.{Values}
use Rattle.sqlite.specs.Command.TheVariants.{Insert}
use Rattle.sqlite.specs.Edit.{edit_of, edited, numbered, next_rowid, with_rowid, are_fresh, is_taken, put_all}
use Rattle.sqlite.specs.Rowids.TheVariants.{Chosen}
use Rattle.sqlite.specs.Does.{Tally, Does}
use Rattle.sqlite.specs.Rows.{Written}
use Rattle.sqlite.specs.Effect.{Database, value_rows}
use Rattle.sqlite.specs.State.{State, mode_of}
use Rattle.sqlite.proofs.Callers.{one_step}
use Rattle.stored_rows.specs.Tables.{copy_schema}
use Rattle.stored_rows.specs.Content.{meta_tree, entry_tree, entry_row, entry_columns, rows_from}
use Rattle.stored_rows.proofs.TextRowLemmas.{entry_table, went, same_value, put_row_moves, cast_null, cast_int}

abbrev stored : ℤ → List ℕ → ℕ → List ℕ → Row
stored id doc place text = Int id ∷ entry_row doc place text

-- more rows stand in `entry`
pub record Adds (rows : List Row) (now after : Database) : Type 0 where
  pub schema : after.schema ≡ copy_schema
  pub meta : after.trees meta_tree ≡ now.trees meta_tree
  pub entry : (was : List Row) → IsPermutation was (map entry_columns (now.trees entry_tree)) → IsPermutation (was ++ rows) (map entry_columns (after.trees entry_tree))

-- the rows as an INSERT gives them, with no rowid
abbrev pub without_ids : List Row → List Row
without_ids = map (λ row. Null ∷ row)

abbrev cast_all : List Row → List Row
cast_all = map (λ s. cast_row entry_table (drop 0 s))

-- the rows of the texts with their rowids, behind these rows
abbrev news_of : List Row → List ℕ → ℕ → List (List ℕ) → List Row
news_of rows doc place [] = []
news_of rows doc place (text ∷ texts) = stored (next_rowid rows) doc place text ∷ news_of (put_row (stored (next_rowid rows) doc place text) rows) doc (place + 1) texts

first_new : (rows : List Row) (doc text : List ℕ) (place : ℕ) → with_rowid Chosen rows (cast_row entry_table (Null ∷ entry_row doc place text)) ≡ stored (next_rowid rows) doc place text
first_new rows doc text place = rw (cast_null, cast_int (pos place)) refl

news_are : (rows : List Row) (doc : List ℕ) (place : ℕ) (texts : List (List ℕ)) → numbered Chosen rows (cast_all (without_ids (rows_from doc place texts))) ≡ news_of rows doc place texts
news_are rows doc place [] = refl
news_are rows doc place (text ∷ texts) =
    let new = stored (next_rowid rows) doc place text in
    let more = cast_all (without_ids (rows_from doc (place + 1) texts)) in
    ap (λ (z : Row). z ∷ numbered Chosen (put_row z rows) more) (first_new rows doc text place) ∙ ap (λ zs. new ∷ zs) (news_are (put_row new rows) doc (place + 1) texts)

both_if : (a b : Bool) → (not a && b) ≡ true → (a ≡ false) × (b ≡ true)
both_if true b h = absurd cc
both_if false b h = (refl, h)

joins : (rows : List Row) (doc : List ℕ) (place : ℕ) (texts : List (List ℕ)) → are_fresh rows (news_of rows doc place texts) ≡ true → (was : List Row) → IsPermutation was (map entry_columns rows)
    → IsPermutation (was ++ rows_from doc place texts) (map entry_columns (put_all rows (news_of rows doc place texts)))
joins rows doc place [] fresh was same = subst (λ z. IsPermutation z (map entry_columns rows)) (sym (append-nil was)) same
joins rows doc place (text ∷ texts) fresh was same =
    let row = entry_row doc place text in
    let new = stored (next_rowid rows) doc place text in
    let after = put_row new rows in
    let news = news_of after doc (place + 1) texts in
    let free = both_if (is_taken rows new) (are_fresh after news) fresh in
    let moved = IsPermutation-map entry_columns (new ∷ rows) after (put_row_moves new rows free.0) in
    let one = IsPermutation-trans _ _ _ (IsPermutation-to_front was row) (IsPermutation-trans _ _ _ (IsPermutation-cons row _ _ same) moved) in
    subst (λ z. IsPermutation z (map entry_columns (put_all after news))) (append_assoc was (row ∷ []) (rows_from doc (place + 1) texts)) (joins after doc (place + 1) texts free.1 (was ++ row ∷ []) one)

joined : (db : Trees) (doc : List ℕ) (place : ℕ) (texts : List (List ℕ)) (all : List Row) → all ≡ without_ids (rows_from doc place texts) → are_fresh (db entry_tree) (edit_of db entry_table [] Chosen 0 all).news ≡ true
    → (was : List Row) → IsPermutation was (map entry_columns (db entry_tree)) → IsPermutation (was ++ rows_from doc place texts) (map entry_columns (edited db (edit_of db entry_table [] Chosen 0 all)))
joined db doc place texts all is fresh was same =
    let rows = db entry_tree in
    let news : (edit_of db entry_table [] Chosen 0 all).news ≡ news_of rows doc place texts = ap (λ a. (edit_of db entry_table [] Chosen 0 a).news) is ∙ news_are rows doc place texts in
    subst (λ n. IsPermutation (was ++ rows_from doc place texts) (map entry_columns (put_all rows n))) (sym news) (joins rows doc place texts (subst (λ n. are_fresh rows n ≡ true) news fresh) was same)

pub inserts : (s : State) (params : Row) (terms : List Term) (doc : List ℕ) (place : ℕ) (texts : List (List ℕ)) (statement : List ℕ) (tally : Tally) (after : Database)
    → s.now.schema ≡ copy_schema → value_rows params 4 (length terms / 4) terms ≡ without_ids (rows_from doc place texts)
    → Does s.step_limit (mode_of s) params s.now statement None (Insert 1 (Values terms 4)) (Ok (tally, after)) → Adds (rows_from doc place texts) s.now after
inserts s params terms doc place texts statement tally after has are does =
    let db = s.now.trees in
    let command = Insert 1 (Values terms 4) in
    let done = went (subst (λ z. Does s.step_limit (mode_of s) params (record s.now { schema = z }) statement None command (Ok (tally, after))) has does) in
    let now = ap (λ (p : Tally × Database). p.1) (same_value (went (went done.2).2).2) in
    let given = went done.1 in
    let written = went (went given.2).2 in
    let counted = went written.2 in
    let trees : done.0.trees ≡ written.0 = ap (λ (it : Written). it.trees) (same_value counted.2) ∙ same_value counted.1 in
    let step = one_step copy_schema _ db written.0 (edit_of db entry_table [] Chosen 0 given.0) refl written.1 in
    record {
      schema = ap (λ (d : Database). d.schema) now;
      meta = ap (λ (d : Database). d.trees meta_tree) now ∙ ap (λ (t : Trees). t meta_tree) trees ∙ step.tables.0 (λ e. absurd (omega arith));
      entry = λ was same. subst (λ rows. IsPermutation (was ++ rows_from doc place texts) (map entry_columns rows))
          (sym (ap (λ (d : Database). d.trees entry_tree) now ∙ ap (λ (t : Trees). t entry_tree) trees ∙ step.rows)) (joined db doc place texts given.0 (given.1.1 ∙ ap (λ p. value_rows p 4 (length terms / 4) terms) (append-nil params) ∙ are) step.fresh was same);
    }
