-- What the statements that make the tables do.
use Rattle.std.proofs.Common.{◌≡◌, ℕ, pos, List, [], ◌∷◌, false, true, IsTrue, codes, None, Ok, Err, Result, OnOk, inl, inr, refl, sym, ap, subst, ◌∙◌, arith}
use Rattle.std.specs.List.{AllByRecursion}
use Rattle.std.proofs.lemmas.List.Sorted.{IsPermutation-refl}
use Rattle.sqlite_value.proofs.OrderLemmas.{value_cmp-Int}
use Rattle.sqlite.specs.declared.types.Value.TheVariants.{Null, Int, Text}
use Rattle.sqlite.specs.Order.{Row}
use Rattle.sqlite.specs.Tree.{Trees}
use Rattle.sqlite.specs.Table.{Table}
use Rattle.sqlite.specs.Schema.{Schema}
use Rattle.sqlite.specs.Change.{created, next_tree, KeepsRows}
use Rattle.sqlite.specs.Compile.{table_defined_by}
use Rattle.sqlite.specs.Command.TheVariants.{Insert, CreateTable}
use Rattle.sqlite.specs.Source.TheVariants.{Values}
use Rattle.sqlite.specs.Edit.{edit_of, edited}
use Rattle.sqlite.specs.Rowids.TheVariants.{Chosen}
use Rattle.sqlite.specs.Does.{Tally, Does, lacks_sequence}
use Rattle.sqlite.specs.Rows.{Written}
use Rattle.sqlite.specs.Effect.{Database}
use Rattle.sqlite_trees.specs.declared.store.Store.{Ghosts}
use Rattle.sqlite.specs.declared.error.Error.{Error}
use Rattle.sqlite.specs.Held.{Held, state}
use Rattle.sqlite.specs.Listing.{understood}
use Rattle.sqlite.specs.State.{State, Executes, CommitsBy, Writes, mode_of}
use Rattle.sqlite.proofs.Callers.{statement_of, runs_as, one_step}
use Rattle.stored_rows.specs.Tables.{meta_text, entry_text, meta, entry, no_schema, meta_schema, copy_schema}
use Rattle.stored_rows.specs.Content.{Holds, HasPair, first_content, meta_tree, entry_tree, meta_row}
use Rattle.stored_rows.specs.Steps.{IsBare, IsOpenWith, Writing}
use Rattle.stored_rows.specs.Statements.{RanAll, CommitsOneOf, create_meta_it, create_entry_it, insert_numbers, commit_it, making_of_tables}
use Rattle.stored_rows.proofs.TextLemmas.{meta_is, entry_is, create_meta, create_entry, create_plain, create_statements, begin_text, begin_bare, first_rows_text, first_rows_is, first_terms}
use Rattle.stored_rows.proofs.TextRowLemmas.{meta_table, went, same_value, cast_null, cast_int}
use Rattle.stored_rows.proofs.StateLemmas.{commits_write, inside_commits, commits, commit_commits}

-- A transaction is under way that has made these tables, which are empty.
pub record Making (schema : Schema) (s : State) : Type 0 where
  pub is_open : IsTrue s.is_open
  pub inside : s.in_transaction ≡ true
  pub schema_is : s.now.schema ≡ schema
  pub empty : AllByRecursion (λ t. s.now.trees t.tree ≡ []) schema.tables

pub begins_bare : (old new : State) (r : Result ℕ Error) → Executes begin_text [] old new r → OnOk r (IsBare old → Making no_schema new)
begins_bare old new (Err e) h = tt
begins_bare old new (Ok count) h = λ bare.
    let ran = runs_as begin_text [] old new no_schema bare.schema _ begin_bare.0 begin_bare.1 count h in
    record { is_open = ran.1.is_open; inside = ran.1.mode; schema_is = ap (λ (d : Database). d.schema) ran.1.now_is ∙ bare.schema; empty = tt }

pub begin_bare_commits : (old : State) (db : Trees) → IsBare old → ¬ CommitsBy begin_text [] old db
begin_bare_commits old db bare h =
    let w = commits_write begin_text [] old no_schema bare.schema _ begin_bare.0 begin_bare.1 (λ e. cc, λ name e. cc) db h in
    let refused = w.3 in cc

-- a CREATE adds its table, which is empty, and keeps the others
module _ (sql : List ℕ) (schema : Schema) (table : Table) (defined : table_defined_by sql ≡ Ok table) (plain : lacks_sequence (created schema table) ≡ false) (old new : State) (making : Making schema old) where
  makes : (count : ℕ) (w : Writes old new None CreateTable sql [] count)
      → (new.now.schema ≡ created schema table) × (new.now.trees (next_tree schema) ≡ []) × KeepsRows schema.tables old.now.trees new.now.trees
  makes count w =
      let all = went w.changed in
      let first = went all.1 in
      let made = first.1 in
      let both : Ok made.table ≡ Ok table = sym made.defined ∙ defined in
      let same : made.table ≡ table = cc in
      let schema_is : first.0.schema ≡ created schema table = made.is ∙ ap (λ s. created s made.table) making.schema_is ∙ ap (created schema) same in
      let one : lacks_sequence first.0.schema ≡ false = ap lacks_sequence schema_is ∙ plain in
      let now : new.now ≡ first.0 = ap (λ (p : Tally × Database). p.1) (same_value all.2) ∙ same_value (rw one at first.2) in (
        ap (λ (d : Database). d.schema) now ∙ schema_is,
        ap (λ (d : Database). d.trees (next_tree schema)) now ∙ subst (λ s. first.0.trees (next_tree s) ≡ []) making.schema_is made.empty,
        subst (λ (d : Database). KeepsRows schema.tables old.now.trees d.trees) (sym now) (subst (λ (s : Schema). KeepsRows s.tables old.now.trees first.0.trees) making.schema_is made.others),
      )

pub makes_meta : (old new : State) (r : Result ℕ Error) → Executes meta_text [] old new r → OnOk r (Making no_schema old → Making meta_schema new)
makes_meta old new (Err e) h = tt
makes_meta old new (Ok count) h = λ making.
    let w = subst (λ t. Writes old new None CreateTable t [] count) create_statements.0 (runs_as meta_text [] old new no_schema making.schema_is CreateTable create_meta create_plain.0 count h) in
    let made = makes meta_text no_schema meta meta_is refl old new making count w in
    record { is_open = w.shown.is_open; inside = w.shown.mode ∙ making.inside; schema_is = made.0; empty = (made.1, tt) }

pub makes_entry : (old new : State) (r : Result ℕ Error) → Executes entry_text [] old new r → OnOk r (Making meta_schema old → Making copy_schema new)
makes_entry old new (Err e) h = tt
makes_entry old new (Ok count) h = λ making.
    let w = subst (λ t. Writes old new None CreateTable t [] count) create_statements.1 (runs_as entry_text [] old new meta_schema making.schema_is CreateTable create_entry create_plain.1 count h) in
    let made = makes entry_text meta_schema entry entry_is refl old new making count w in
    record { is_open = w.shown.is_open; inside = w.shown.mode ∙ making.inside; schema_is = made.0; empty = (made.2.0 ∙ making.empty.0, (made.1, tt)) }

-- ---- the two rows of `meta`

abbrev sources : List Row
sources = (Null ∷ Text (codes "format") ∷ Int (pos 2) ∷ []) ∷ (Null ∷ Text (codes "epoch") ∷ Int (pos 0) ∷ []) ∷ []

abbrev first_rows : List Row
first_rows = meta_row (pos 1) (codes "format") 2 ∷ meta_row (pos 2) (codes "epoch") 0 ∷ []

edited_is : (db : Trees) (all : List Row) → db meta_tree ≡ [] → all ≡ sources → edited db (edit_of db meta_table [] Chosen 0 all) ≡ first_rows
edited_is db all none is = ap (λ a. edited db (edit_of db meta_table [] Chosen 0 a)) is ∙ rw (none, cast_null, cast_int (pos 2), cast_int (pos 0), value_cmp-Int (pos 1) (pos 2)) refl

holds_first : HasPair (codes "format") (codes "epoch") 2 0 first_rows
holds_first = record { id = pos 1; other_id = pos 2; apart = λ e. absurd (let same : ◌≡◌ {A = ℕ} 1 2 = cc in omega arith); rows_are = IsPermutation-refl first_rows }

puts_rows : (s : State) (statement : List ℕ) (tally : Tally) (after : Database) → Making copy_schema s
    → Does s.step_limit (mode_of s) [] s.now statement None (Insert 0 (Values first_terms 3)) (Ok (tally, after)) → (after.schema ≡ copy_schema) × Holds first_content after.trees
puts_rows s statement tally after making does =
    let db = s.now.trees in
    let command = Insert 0 (Values first_terms 3) in
    let done = went (subst (λ z. Does s.step_limit (mode_of s) [] (record s.now { schema = z }) statement None command (Ok (tally, after))) making.schema_is does) in
    let now = ap (λ (p : Tally × Database). p.1) (same_value (went (went done.2).2).2) in
    let given = went done.1 in
    let written = went (went given.2).2 in
    let counted = went written.2 in
    let trees : done.0.trees ≡ written.0 = ap (λ (it : Written). it.trees) (same_value counted.2) ∙ same_value counted.1 in
    let step = one_step copy_schema _ db written.0 (edit_of db meta_table [] Chosen 0 given.0) refl written.1 in
    let in_meta : after.trees meta_tree ≡ first_rows =
    ap (λ (d : Database). d.trees meta_tree) now ∙ ap (λ (t : Trees). t meta_tree) trees ∙ step.rows ∙ edited_is db given.0 making.empty.0 given.1.1 in
    let in_entry : after.trees entry_tree ≡ [] =
    ap (λ (d : Database). d.trees entry_tree) now ∙ ap (λ (t : Trees). t entry_tree) trees ∙ step.tables.1.0 (λ e. absurd (omega arith)) ∙ making.empty.1.0 in
    (ap (λ (d : Database). d.schema) now, record { meta = rw in_meta holds_first; entry = rw in_entry (IsPermutation-refl []) })

abbrev first_statement : List ℕ
first_statement = statement_of first_rows_text (understood copy_schema first_rows_text)

pub puts_first_rows : (old new : State) (r : Result ℕ Error) → Executes first_rows_text [] old new r → OnOk r (Making copy_schema old → Writing first_content new)
puts_first_rows old new (Err e) h = tt
puts_first_rows old new (Ok count) h = λ making.
    let w = runs_as first_rows_text [] old new copy_schema making.schema_is _ first_rows_is.0 first_rows_is.1 count h in
    let made = puts_rows old first_statement w.tally new.now making w.changed in
    record { is_open = w.shown.is_open; inside = w.shown.mode ∙ making.inside; schema = made.0; holds = made.1 }

-- ---- nothing is committed on the way

pub meta_pending : (old : State) (db : Trees) → Making no_schema old → ¬ CommitsBy meta_text [] old db
meta_pending old db making = inside_commits meta_text [] old no_schema making.schema_is _ create_meta create_plain.0 (λ e. cc, λ name e. cc) making.inside db

pub entry_pending : (old : State) (db : Trees) → Making meta_schema old → ¬ CommitsBy entry_text [] old db
entry_pending old db making = inside_commits entry_text [] old meta_schema making.schema_is _ create_entry create_plain.1 (λ e. cc, λ name e. cc) making.inside db

pub first_pending : (old : State) (db : Trees) → Making copy_schema old → ¬ CommitsBy first_rows_text [] old db
first_pending old db making = inside_commits first_rows_text [] old copy_schema making.schema_is _ first_rows_is.0 first_rows_is.1 (λ e. cc, λ name e. cc) making.inside db

-- ---- all of them

module _ {S : Type 0} (g : Ghosts S) where
  pub making_ran : (old new : Held S) → IsBare (state g old) → RanAll g making_of_tables old new → IsOpenWith first_content (state g new)
  making_ran old new bare (a, begun, (b, with_meta, (c, with_both, (d, filled, (e, ended, same))))) =
      let making = begins_bare (state g old) (state g a) (Ok begun.0) begun.1 bare in
      let has_meta = makes_meta (state g a) (state g b) (Ok with_meta.0) with_meta.1 making in
      let has_both = makes_entry (state g b) (state g c) (Ok with_both.0) with_both.1 has_meta in
      let writing = puts_first_rows (state g c) (state g d) (Ok filled.0) filled.1 has_both in
      subst (λ h. IsOpenWith first_content (state g h)) same (commits (state g d) (state g e) (Ok ended.0) ended.1 first_content writing)

  module _ (db : Trees) where
    filled_commits : (old : Held S) → Making copy_schema (state g old) → CommitsOneOf g (insert_numbers ∷ commit_it ∷ []) old db → Holds first_content db
    filled_commits old making (inl h) = absurd (first_pending (state g old) db making h)
    filled_commits old making (inr (mid, filled, inl h)) = commit_commits (state g mid) first_content db (puts_first_rows (state g old) (state g mid) (Ok filled.0) filled.1 making) h
    filled_commits old making (inr (mid, filled, inr h)) = absurd h.2

    both_commit : (old : Held S) → Making meta_schema (state g old) → CommitsOneOf g (create_entry_it ∷ insert_numbers ∷ commit_it ∷ []) old db → Holds first_content db
    both_commit old making (inl h) = absurd (entry_pending (state g old) db making h)
    both_commit old making (inr (mid, ran, h)) = filled_commits mid (makes_entry (state g old) (state g mid) (Ok ran.0) ran.1 making) h

    meta_commits : (old : Held S) → Making no_schema (state g old) → CommitsOneOf g (create_meta_it ∷ create_entry_it ∷ insert_numbers ∷ commit_it ∷ []) old db → Holds first_content db
    meta_commits old making (inl h) = absurd (meta_pending (state g old) db making h)
    meta_commits old making (inr (mid, ran, h)) = both_commit mid (makes_meta (state g old) (state g mid) (Ok ran.0) ran.1 making) h

    pub making_commits : (old : Held S) → IsBare (state g old) → CommitsOneOf g making_of_tables old db → Holds first_content db
    making_commits old bare (inl h) = absurd (begin_bare_commits (state g old) db bare h)
    making_commits old bare (inr (mid, ran, h)) = meta_commits mid (begins_bare (state g old) (state g mid) (Ok ran.0) ran.1 bare) h
