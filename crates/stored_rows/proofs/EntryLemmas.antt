-- What the query of the entries answers, row by row.
use Rattle.std.proofs.Common.{◌≡◌, List, [], ◌++◌, map, refl, sym, ap, subst, ◌∙◌}
use Rattle.std.specs.List.Sorted.{IsPermutation, IsSorted}
use Rattle.sqlite.specs.Order.{Row}
use Rattle.sqlite.specs.Program.{overlay}
use Rattle.sqlite.specs.Listing.{understood}
use Rattle.sqlite.specs.Effect.{Database}
use Rattle.sqlite.specs.State.{State, Shown, Begins, IsUnchanged}
use Rattle.sqlite.specs.Clock.{timed}
use Rattle.sqlite.specs.declared.types.Value.TheVariants.{Null}
use Rattle.sqlite.proofs.Callers.{EndsIn, command_of, reads_as, begins_shown}
use Rattle.stored_rows.specs.Tables.{copy_schema}
use Rattle.stored_rows.proofs.TextLemmas.{read_entries_text, read_entries_query, read_entries_is}
use Rattle.stored_rows.specs.Content.{entry_tree, entry_columns}
use Rattle.stored_rows.proofs.SortLemmas.{row_cmp}
use Rattle.stored_rows.proofs.ReadLemmas.{answers_whole, sorted_whole}

-- what a whole answer of the entries holds
entries_answered : (old new : State) (rows : List Row) → Shown read_entries_text [] old new rows → old.now.schema ≡ copy_schema → IsPermutation (map entry_columns (old.now.trees entry_tree)) rows × IsSorted row_cmp rows
entries_answered old new rows h has =
    let read = reads_as read_entries_text [] old new copy_schema has _ read_entries_is.0 read_entries_is.1 read_entries_is.2 rows h in (
      answers_whole 2 read_entries_query.project read_entries_query.order (overlay old.now.trees []) rows (read.answer Null),
      sorted_whole 2 read_entries_query.project read_entries_query.order row_cmp (λ r s. refl) (overlay old.now.trees []) rows (read.answer Null),
    )

-- the entries that were given last are all
pub all_entries : (old new : State) (rows : List Row) → Shown read_entries_text [] old new rows → old.now.schema ≡ copy_schema → IsPermutation (map entry_columns (old.now.trees entry_tree)) rows
all_entries old new rows h has = (entries_answered old new rows h has).0

-- the entries that were given so far are the first of all
pub first_entries : (first now : State) (rows : List Row) → IsUnchanged first now → Begins read_entries_text [] now rows → first.now.schema ≡ copy_schema
    → (rest : List Row) × IsPermutation (map entry_columns (first.now.trees entry_tree)) (rows ++ rest) × IsSorted row_cmp (rows ++ rest)
first_entries first now rows same h has =
    let has_still = subst (λ (d : Database). d.schema ≡ copy_schema) (sym same.0.now_is) has in
    let still : IsUnchanged now now = (
      record { was_open = same.0.is_open; is_open = same.0.is_open; now_is = refl; committed_is = refl; mode = refl },
      record { changes = refl; last_rowid = refl },
      refl,
    ) in
    let all = begins_shown read_entries_text [] now now rows h still
    (λ c db it source. subst (λ k. EndsIn k db (timed [] c.formats it.now)) (sym (ap command_of (sym it.is ∙ ap (λ s. understood s read_entries_text) has_still) ∙ read_entries_is.0)) tt) in
    let whole = entries_answered now now (rows ++ all.0) all.1 has_still in
    (all.0, subst (λ (d : Database). IsPermutation (map entry_columns (d.trees entry_tree)) (rows ++ all.0)) same.0.now_is whole.0, whole.1)
