-- The rows of `entry`, which are given one at a time.
use Rattle.std.proofs.Common.{◌≡◌, ℕ, List, [], ◌∷◌, ◌++◌, map, Some, sym, subst, append_assoc, arith}
use Rattle.std.specs.List.Sorted.{IsPermutation}
use Rattle.std.proofs.lemmas.List.Sorted.{IsPermutation-refl, IsPermutation-trans}
use Rattle.sqlite_trees.specs.declared.store.Store.{Ghosts}
use Rattle.sqlite.specs.Tree.{Trees}
use Rattle.sqlite.specs.Order.{Row}
use Rattle.sqlite.specs.Held.{Held, state}
use Rattle.sqlite.specs.State.{State, HasCleanDisk, Survives, Shown, IsUnchanged, CommitsShowing}
use Rattle.sqlite.specs.Given.{HasGiven, HasBegun, Advances}
use Rattle.sqlite.proofs.Callers.{given_begin, unchanged_then}
use Rattle.sqlite.proofs.StateLemmas.{survives_then, survives_weaker}
use Rattle.stored_rows.specs.Tables.{copy_schema}
use Rattle.stored_rows.proofs.TextLemmas.{read_entries_text}
use Rattle.stored_rows.proofs.SelectLemmas.{selects_entries, select_begun, select_commits, select_unchanged, begins_so, shown_so}
use Rattle.stored_rows.specs.Content.{Content, Holds, entry_tree, entry_columns}
use Rattle.stored_rows.specs.Statements.{BeginsFor, select_entries}
use Rattle.stored_rows.specs.Steps.{StaysOutside}
use Rattle.stored_rows.proofs.EntryLemmas.{first_entries, all_entries}
use Rattle.op_core.specs.Op.{Op}
use Rattle.stored_log.specs.Docs.{Doc, AreInOrder, AreGood, add_log}
use Rattle.stored_rows.specs.Accepted.{AreWritable, IsNext, IsSoundContent}
use Rattle.stored_rows.specs.Shown.{AreAnswered, ShowsNoLogs}
use Rattle.stored_rows.specs.Parsed.{HasRows, AddsRow}
use Rattle.stored_rows.specs.Rows.{rows_of}
use Rattle.stored_rows.proofs.NextLemmas.{AreNext, all_next}
use Rattle.stored_rows.proofs.SortLemmas.{entries_are}

-- the query commits nothing
pub commits_none : (old new : State) → Survives old new (CommitsShowing read_entries_text [] old) → Survives old new (λ _. ⊥)
commits_none old new = survives_weaker old new _ _ (λ clean db h. absurd (select_commits read_entries_text selects_entries [] old db h))

-- the connection is returned as it was lent last
pub given_back : {S : Type 0} (g : Ghosts S) (old : State) (P : Trees → Type 0) (now end : Held S) → Survives old (state g now) P → end ≡ now → Survives old (state g end) P
given_back g old P now end h same = subst (λ c. Survives old (state g c) P) (sym same) h

module _ {S : Type 0} (g : Ghosts S) (old : Held S) (format : ℕ) where
  abbrev pub IsGiven : Held S → List Row → Type 0
  IsGiven now given = HasCleanDisk (state g now) → HasGiven g read_entries_text [] now given × IsUnchanged (state g old) (state g now)

  abbrev pub LeavesAll : Held S → Type 0
  LeavesAll now = Survives (state g old) (state g now) (λ _. ⊥)

  -- The rows that were given stand in the documents, and nothing is changed.
  pub record HasReadTo (now : Held S) (docs : List Doc) : Type 0 where
    pub given : List Row
    pub held : HasRows format given docs
    pub next : (more : List Row) → AreNext format [] (given ++ more) → AreNext format docs more
    pub reads : IsGiven now given
    pub crash : LeavesAll now
    pub outside : StaysOutside (state g old) (state g now)

  pub has_begun : (now : Held S) → (HasCleanDisk (state g now) → HasBegun g read_entries_text [] old now) → StaysOutside (state g old) (state g now)
      → Survives (state g old) (state g now) (CommitsShowing read_entries_text [] (state g old)) → HasReadTo now []
  has_begun now begun outside survives = record {
    given = [];
    held = record { in_order = tt; good = tt; writable = tt; in_format = tt; rows_are = IsPermutation-refl [] };
    next = λ more h. h;
    reads = λ clean. select_begun read_entries_text selects_entries [] g old now (begun clean);
    crash = commits_none (state g old) (state g now) survives;
    outside = outside;
  }

  module _ (mid new : Held S) (docs : List Doc) (before : HasReadTo mid docs) (survives : Survives (state g mid) (state g new) (λ _. ⊥)) where
    -- nothing is committed
    pub leaves_all : LeavesAll new
    leaves_all = survives_then (state g old) (state g mid) (state g new) _ _ _ (λ clean db none. none) (λ clean db none. none) before.crash survives

    module _ (row : Row) (moved : HasCleanDisk (state g new) → Advances g mid new (Some row)) (same : HasCleanDisk (state g new) → IsUnchanged (state g mid) (state g new)) where
      is_given : IsGiven new (before.given ++ row ∷ [])
      is_given clean =
          let was = before.reads (omega (arith, survives.clean)) in
          (moved clean read_entries_text [] before.given was.0, unchanged_then (state g old) (state g mid) (state g new) was.1 (same clean))

      -- one row more
      pub reads_on : (more : List Doc) → AddsRow format row docs more → ((name : List ℕ) (op : Op) → IsNext format docs row name op → more ≡ add_log name (op ∷ []) docs) → StaysOutside (state g mid) (state g new)
          → HasReadTo new more
      reads_on more adds added outside = record {
        given = before.given ++ row ∷ [];
        held = adds before.given before.held;
        next = λ rows h.
            let it = before.next (row ∷ rows) (subst (AreNext format []) (append_assoc before.given (row ∷ []) rows) h) in
            subst (λ d. AreNext format d rows) (sym (added it.0 it.1 it.2)) it.3;
        reads = is_given;
        crash = leaves_all;
        outside = λ out. outside (before.outside out);
      }

      -- so the database began to show them
      pub begins_with : HasCleanDisk (state g new) → BeginsFor g select_entries old (before.given ++ row ∷ [])
      begins_with clean =
          let given = before.given ++ row ∷ [] in
          let read = is_given clean in
          begins_so read_entries_text selects_entries [] (state g old) (state g new) read.1.0.now_is given (given_begin g read_entries_text [] new given read.0)

      -- where the rows begin those of good documents, this is the next of its document
      next_of : (docs_of : List Doc) (rest : List Row) → AreInOrder docs_of → AreGood docs_of → AreWritable format docs_of → rows_of docs_of ≡ (before.given ++ row ∷ []) ++ rest
          → (name : List ℕ) × (op : Op) × IsNext format docs row name op
      next_of docs_of rest in_order good writable are =
          let next = subst (AreNext format []) are (all_next format docs_of in_order good writable) in
          let it = before.next (row ∷ rest) (subst (AreNext format []) (append_assoc before.given (row ∷ []) rest) next) in
          (it.0, it.1, it.2)

      -- a row that is the next of none is refused
      pub shows_none : HasCleanDisk (state g new) → ((name : List ℕ) (op : Op) → IsNext format docs row name op → ⊥) → ShowsNoLogs g format old
      shows_none clean none = record {
        rows = before.given ++ row ∷ [];
        begun = begins_with clean;
        are_none = λ docs_of rest in_order good writable are. let it = next_of docs_of rest in_order good writable are in none it.0 it.1 it.2;
      }

      -- a row of a sound copy is the next of its document
      pub is_next : (was : Content) → HasCleanDisk (state g new) → IsSoundContent was → was.format ≡ format → (state g old).now.schema ≡ copy_schema → Holds was (state g old).now.trees
          → (name : List ℕ) × (op : Op) × IsNext format docs row name op
      is_next was clean sound is has holds =
          let given = before.given ++ row ∷ [] in
          let read = is_given clean in
          let all = first_entries (state g old) (state g new) given read.1 (given_begin g read_entries_text [] new given read.0) has in
          let rows_are = entries_are was (state g old).now.trees holds sound.docs (given ++ all.0) sound.in_order sound.rows_are all.1 all.2 in
          next_of sound.docs all.0 sound.in_order sound.good (subst (λ f. AreWritable f sound.docs) is sound.writable) (sym rows_are)

    -- no row is left
    module _ (ended : HasCleanDisk (state g new) → Shown read_entries_text [] (state g mid) (state g new) before.given) where
      pub are_shown : HasCleanDisk (state g new) → AreAnswered g old new docs
      are_shown clean =
          let was = before.reads (omega (arith, survives.clean)) in record {
            rows = before.given;
            shown = shown_so read_entries_text selects_entries [] (state g old) (state g mid) (state g new) before.given was.1 (ended clean);
            rows_are = before.held.rows_are;
          }

      pub ends_unchanged : HasCleanDisk (state g new) → IsUnchanged (state g old) (state g new)
      ends_unchanged clean =
          let was = before.reads (omega (arith, survives.clean)) in
          unchanged_then (state g old) (state g mid) (state g new) was.1 (select_unchanged read_entries_text selects_entries [] (state g mid) (state g new) before.given (ended clean))

      pub all_rows : HasCleanDisk (state g new) → (state g old).now.schema ≡ copy_schema → IsPermutation (map entry_columns ((state g old).now.trees entry_tree)) (rows_of docs)
      all_rows clean has =
          let it = are_shown clean in
          IsPermutation-trans _ _ _ (all_entries (state g old) (state g new) it.rows it.shown has) it.rows_are
