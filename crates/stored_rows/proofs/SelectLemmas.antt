-- A text that is a SELECT writes nothing, whatever tables the database has.
use Rattle.std.proofs.Common.{◌≡◌, ◌+◌, ℕ, Bool, true, false, List, Option, None, Some, Ok, Err, inl, inr, [], refl, sym, subst}
use Rattle.std.specs.Prelude.{if◌then◌else◌, IsSome}
use Rattle.sqlite_schema.specs.declared.command.Returning.{Returning}
use Rattle.sqlite_resolve.specs.declared.compiled.Compiled.{Compiled}
use Rattle.sqlite_resolve.specs.declared.error.CompileError.TheVariants.{NoSuchTable}
use Rattle.sqlite.specs.Clock.{timed as full}
use Rattle.sqlite.specs.Order.{Row}
use Rattle.sqlite.specs.Tree.{Trees}
use Rattle.sqlite.specs.Schema.{Schema}
use Rattle.sqlite.specs.Command.{Command}
use Rattle.sqlite_ast.specs.declared.Statement.{Statement}
use Rattle.sqlite_ast.specs.declared.Statement.TheVariants as written
use Rattle.sqlite_syntax.specs.declared.statement.Parsed.{Parsed}
use Rattle.sqlite_resolve.specs.Lowering.{Checked, and_then}
use Rattle.sqlite_resolve.specs.Compile.{compiled, first, planned, meaning, returning, timed, command, small, with_command}
use Rattle.sqlite_tied.specs.Compute.{everything}
use Rattle.sqlite.specs.Given.{Returns, HasGiven, HasBegun}
use Rattle.sqlite.specs.Listing.{understood, reads_listing, IsSourceOf, if_select, is_select, listing_schema}
use Rattle.sqlite_trees.specs.declared.store.Store.{Ghosts}
use Rattle.sqlite.specs.Effect.{Database}
use Rattle.sqlite.specs.Held.{Held, state}
use Rattle.sqlite.specs.State.{State, CommitsShowing, Shown, ShowsRows, Begins, IsStatement, IsUnchanged}
use Rattle.sqlite.proofs.Callers.{unchanged_then}
use Rattle.stored_rows.proofs.TextLemmas.{read_meta_text, read_entries_text}

abbrev is_selecting : Statement → Bool
is_selecting (written.Select s) = true
is_selecting _ = false

abbrev is_selecting_in : Checked Parsed → Bool
is_selecting_in (Ok p) = is_selecting p.statement
is_selecting_in (Err e) = false

abbrev pub IsSelect : List ℕ → Type 0
IsSelect sql = is_selecting_in (first sql) ≡ true

pub selects_meta : IsSelect read_meta_text
unfolding everything
selects_meta = refl

pub selects_entries : IsSelect read_entries_text
unfolding everything
selects_entries = refl

shows_nothing : (schema : Schema) (base : ℕ) (s : Statement) → is_selecting s ≡ true → returning schema base s ≡ Ok None
unfolding returning
shows_nothing schema base (written.Select s) is = refl
shows_nothing schema base _ is = absurd cc

without_returning : (p : Parsed) (formats : List (List ℕ)) (c : Checked Command)
    → ¬ Returns (and_then (and_then (and_then c (λ k. Ok (k, None))) (λ found. Ok (formats, found))) (λ plan. Ok (with_command p plan)))
without_returning p formats (Ok c) h = absurd cc
without_returning p formats (Err e) h = h

planned_so : (schema : Schema) (p : Parsed) → is_selecting p.statement ≡ true → ¬ Returns (and_then (planned schema p) (λ plan. Ok (with_command p plan)))
unfolding planned meaning
planned_so schema p is h =
    let formats = timed schema p.formats p.statement in
    let base = small p.names + small formats in
    without_returning p formats (command schema p.formats base p.statement) (rw (shows_nothing schema base p.statement is) at h)

compiled_so : (schema : Schema) (sql : List ℕ) → IsSelect sql → ¬ Returns (compiled schema sql)
unfolding compiled
compiled_so schema sql is = go (first sql) is
  where
    go : (r : Checked Parsed) → is_selecting_in r ≡ true → ¬ Returns (and_then r (λ p. and_then (planned schema p) (λ plan. Ok (with_command p plan))))
    go (Ok p) is h = planned_so schema p is h
    go (Err e) is h = absurd cc

either_way : (b : Bool) (x y : Checked Compiled) → ¬ Returns x → ¬ Returns y → ¬ Returns (if b then x else y)
either_way true x y first second = first
either_way false x y first second = second

listed_so : (r : Checked Compiled) → ¬ Returns r → ¬ Returns (if_select r)
listed_so (Ok c) none = either_way (is_select c.command) (Ok c) (Err NoSuchTable) none (λ h. h)
listed_so (Err e) none = λ h. h

-- it has no RETURNING
pub never_returns : (schema : Schema) (sql : List ℕ) → IsSelect sql → ¬ Returns (understood schema sql)
unfolding understood
never_returns schema sql is =
    either_way (reads_listing schema sql) (if_select (compiled listing_schema sql)) (compiled schema sql) (listed_so (compiled listing_schema sql) (compiled_so listing_schema sql is)) (compiled_so schema sql is)

module _ (sql : List ℕ) (is : IsSelect sql) (params : Row) where
  pub select_commits : (s : State) (db : Trees) → ¬ CommitsShowing sql params s db
  unfolding CommitsShowing
  select_commits s db h = never_returns s.now.schema sql is (subst Returns (sym h.1.is) h.2)

  -- what is shown is read, and nothing is changed
  pub select_unchanged : (old new : State) (rows : List Row) → Shown sql params old new rows → IsUnchanged old new
  unfolding Shown
  select_unchanged old new rows h = go h.0.returning (λ some. never_returns old.now.schema sql is (subst Returns (sym h.1.is) some)) h.2
    where
      go : (r : Option Returning) → ¬ IsSome r → ShowsRows old new sql h.0 (full params h.0.formats h.1.now) rows r → IsUnchanged old new
      go None none shown = shown.3
      go (Some what) none shown = absurd (none refl)

  abbrev Plain : Option Returning → Type 0
  Plain r = r ≡ None

  plain_if : (r : Option Returning) → ¬ IsSome r → Plain r
  plain_if None none = refl
  plain_if (Some what) none = absurd (none refl)

  -- it reads the same where the database is the same
  module _ (a b : State) (same : b.now ≡ a.now) where
    abbrev statement_of_same : (c : Compiled) → IsStatement b sql params c → IsStatement a sql params c
    statement_of_same c it = record { is = subst (λ (d : Database). understood d.schema sql ≡ Ok c) same it.is; whole = it.whole; given = it.given; now = it.now }

    pub begins_so : (rows : List Row) → Begins sql params b rows → Begins sql params a rows
    unfolding Begins
    begins_so rows h =
        (h.0, statement_of_same h.0 h.1, h.2, h.3, subst (λ (d : Database). IsSourceOf (reads_listing d.schema sql) d h.3) same h.4, h.5)

  -- of two reads the first changed nothing
  pub shown_so : (before old new : State) (rows : List Row) → IsUnchanged before old → Shown sql params old new rows → Shown sql params before new rows
  unfolding Shown
  shown_so before old new rows kept h =
      let same = kept.0.now_is in
      let none = plain_if h.0.returning (λ some. never_returns old.now.schema sql is (subst Returns (sym h.1.is) some)) in
      let all = full params h.0.formats h.1.now in
      let it = subst (ShowsRows old new sql h.0 all rows) none h.2 in (
        h.0,
        statement_of_same before old same h.0 h.1,
        subst (ShowsRows before new sql h.0 all rows) (sym none)
            (it.0, subst (λ (d : Database). IsSourceOf (reads_listing d.schema sql) d it.0) same it.1, it.2, unchanged_then before old new kept it.3),
      )

  module _ {S : Type 0} (g : Ghosts S) (old new : Held S) where
    -- it begins with no row
    pub select_begun : HasBegun g sql params old new → HasGiven g sql params new [] × IsUnchanged (state g old) (state g new)
    select_begun (inl h) = h
    select_begun (inr h) = absurd (never_returns old.schema sql is h.0)
