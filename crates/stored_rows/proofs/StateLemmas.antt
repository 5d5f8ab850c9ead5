-- What the statements do to a connection, and what they commit.
use Rattle.std.proofs.Common.{◌≡◌, ◌≢◌, ◌/◌, ℕ, zero, suc, pos, List, [], ◌∷◌, drop, length, get_or, true, None, Ok, Err, Result, OnOk, refl, inl, inr, sym, ap, subst, subst₂, ◌∙◌, append-nil, codes, arith}
use Rattle.sqlite.specs.declared.types.Value.TheVariants.{Int}
use Rattle.sqlite.specs.Order.{Row}
use Rattle.sqlite.specs.Tree.{Trees}
use Rattle.sqlite.specs.Schema.{Schema}
use Rattle.sqlite.specs.Query.{Query}
use Rattle.sqlite.specs.Command.{Command}
use Rattle.sqlite.specs.Term.{Term}
use Rattle.sqlite.specs.Source.TheVariants.{Values}
use Rattle.sqlite.specs.Command.TheVariants.{Insert, Update, Commit, Release}
use Rattle.sqlite.specs.Effect.{Database, value_rows}
use Rattle.sqlite.specs.Does.{Tally, Does}
use Rattle.sqlite.specs.declared.error.Error.{Error}
use Rattle.sqlite.specs.Listing.{understood}
use Rattle.sqlite.specs.State.{State, Executes, CommitsBy, MayCommit, MayWrite, mode_of}
use Rattle.sqlite.proofs.Callers.{IsPlain, command_of, statement_of, runs_as}
use Rattle.std.specs.Prelude.{flat_map}
use Rattle.stored_rows.specs.Tables.{copy_schema, sixteen_text}
use Rattle.stored_rows.specs.Content.{Content, Holds, with_format, with_epoch, with_rows, entry_row, rows_from}
use Rattle.stored_rows.specs.Steps.{IsOpenWith, Writing}
use Rattle.stored_rows.proofs.TextLemmas.{insert_text, terms, insert_is, insert_plain, sixteen_terms, sixteen_is, set_query, epoch_text, epoch_is, epoch_plain, format_text, format_is, format_plain, begin_text, begin_is, commit_text, commit_is, rollback_text, rollback_is}
use Rattle.stored_rows.proofs.InsertLemmas.{inserts, without_ids}
use Rattle.stored_rows.proofs.UpdateLemmas.{sets_epoch, sets_format}

-- what a text that is written out may commit
pub commits_as : (sql : List ℕ) (params : Row) (s : State) (schema : Schema) (has : s.now.schema ≡ schema) (command : Command) (is : command_of (understood schema sql) ≡ command)
    (plain : IsPlain (understood schema sql)) (db : Trees) → CommitsBy sql params s db → MayCommit s None command (statement_of sql (understood schema sql)) params db
unfolding CommitsBy
commits_as sql params s schema has command is plain db h =
    let known = sym h.1.is ∙ ap (λ z. understood z sql) has in
    let bare = subst IsPlain (sym known) plain in
    subst₂ (λ k t. MayCommit s None k t params db) (ap command_of known ∙ is) (ap (statement_of sql) known) (rw (bare.0, bare.1, append-nil params) at h.2)

-- only COMMIT and RELEASE end a transaction
abbrev pub EndsNone : Command → Type 0
EndsNone command = (command ≢ Commit) × ((name : List ℕ) → command ≢ Release name)

-- a write commits only outside a transaction, and then what it makes of the tables
pub commits_write : (sql : List ℕ) (params : Row) (s : State) (schema : Schema) (has : s.now.schema ≡ schema) (command : Command) (is : command_of (understood schema sql) ≡ command)
    (plain : IsPlain (understood schema sql)) → EndsNone command → (db : Trees) → CommitsBy sql params s db → MayWrite s None command (statement_of sql (understood schema sql)) params db
commits_write sql params s schema has command is plain none db h = elim (commits_as sql params s schema has command is plain db h) [
  | inl ends ↦ elim ends.0 [ inl e ↦ absurd (none.0 e) | inr r ↦ absurd (none.1 r.0 r.2) ]
  | inr w ↦ w
]

-- nothing is committed inside a transaction
pub inside_commits : (sql : List ℕ) (params : Row) (s : State) (schema : Schema) → s.now.schema ≡ schema → (command : Command) → command_of (understood schema sql) ≡ command → IsPlain (understood schema sql)
    → EndsNone command → s.in_transaction ≡ true → (db : Trees) → ¬ CommitsBy sql params s db
inside_commits sql params s schema has command is plain none inside db h =
    let w = commits_write sql params s schema has command is plain none db h in
    let outside = w.0 in cc

-- ---- one number of `meta`

-- An UPDATE of a connection that serves one thing makes it serve the next.
module _ (sql : List ℕ) (query : Query) (is : command_of (understood copy_schema sql) ≡ Update 0 (record { lets = []; body = query })) (plain : IsPlain (understood copy_schema sql)) (params : Row)
    (was next : Content) (old : State) (serves : IsOpenWith was old)
    (makes : (tally : Tally) (after : Database)
    → Does old.step_limit (mode_of old) params old.now (statement_of sql (understood copy_schema sql)) None (Update 0 (record { lets = []; body = query })) (Ok (tally, after)) → (after.schema ≡ copy_schema) × Holds next after.trees) where
  update_serves : (new : State) (count : ℕ) → Executes sql params old new (Ok count) → IsOpenWith next new
  update_serves new count h =
      let w = runs_as sql params old new copy_schema serves.schema _ is plain count h in
      let made = makes w.tally new.now w.changed in
      record {
        is_open = w.shown.is_open;
        autocommit = w.shown.mode ∙ serves.autocommit;
        schema = made.0;
        committed = rw serves.autocommit at w.shown.committed_is;
        holds = made.1;
      }

  update_commits : (db : Trees) → CommitsBy sql params old db → Holds next db
  update_commits db h =
      let w = commits_write sql params old copy_schema serves.schema _ is plain (λ e. cc, λ name e. cc) db h in
      subst (Holds next) (sym w.5) (makes w.1 w.2 w.3).1

abbrev epoch_statement : List ℕ
epoch_statement = statement_of epoch_text (understood copy_schema epoch_text)

abbrev format_statement : List ℕ
format_statement = statement_of format_text (understood copy_schema format_text)

module _ (was : Content) (epoch : ℕ) (old : State) (serves : IsOpenWith was old) where
  epoch_made : (tally : Tally) (after : Database)
      → Does old.step_limit (mode_of old) (Int (pos epoch) ∷ []) old.now epoch_statement None (Update 0 (record { lets = []; body = set_query (codes "epoch") })) (Ok (tally, after))
      → (after.schema ≡ copy_schema) × Holds (with_epoch epoch was) after.trees
  epoch_made tally after does =
      let sets = sets_epoch old was.format was.epoch epoch epoch_statement tally after serves.schema serves.holds.meta does in (sets.0, record { meta = sets.1; entry = rw sets.2 serves.holds.entry })

  epoch_is_set : (new : State) (count : ℕ) → Executes epoch_text (Int (pos epoch) ∷ []) old new (Ok count) → IsOpenWith (with_epoch epoch was) new
  epoch_is_set = update_serves epoch_text _ epoch_is epoch_plain (Int (pos epoch) ∷ []) was (with_epoch epoch was) old serves epoch_made

  pub epoch_commits : (db : Trees) → CommitsBy epoch_text (Int (pos epoch) ∷ []) old db → Holds (with_epoch epoch was) db
  epoch_commits = update_commits epoch_text _ epoch_is epoch_plain (Int (pos epoch) ∷ []) was (with_epoch epoch was) old serves epoch_made

pub sets_the_epoch : (old new : State) (epoch : ℕ) (r : Result ℕ Error) → Executes epoch_text (Int (pos epoch) ∷ []) old new r → OnOk r ((was : Content) → IsOpenWith was old → IsOpenWith (with_epoch epoch was) new)
sets_the_epoch old new epoch (Err e) h = tt
sets_the_epoch old new epoch (Ok count) h = λ was serves. epoch_is_set was epoch old serves new count h

module _ (was : Content) (format : ℕ) (old : State) (serves : IsOpenWith was old) where
  format_made : (tally : Tally) (after : Database)
      → Does old.step_limit (mode_of old) (Int (pos format) ∷ []) old.now format_statement None (Update 0 (record { lets = []; body = set_query (codes "format") })) (Ok (tally, after))
      → (after.schema ≡ copy_schema) × Holds (with_format format was) after.trees
  format_made tally after does =
      let sets = sets_format old was.format format was.epoch format_statement tally after serves.schema serves.holds.meta does in (sets.0, record { meta = sets.1; entry = rw sets.2 serves.holds.entry })

  format_is_set : (new : State) (count : ℕ) → Executes format_text (Int (pos format) ∷ []) old new (Ok count) → IsOpenWith (with_format format was) new
  format_is_set = update_serves format_text _ format_is format_plain (Int (pos format) ∷ []) was (with_format format was) old serves format_made

  pub format_commits : (db : Trees) → CommitsBy format_text (Int (pos format) ∷ []) old db → Holds (with_format format was) db
  format_commits = update_commits format_text _ format_is format_plain (Int (pos format) ∷ []) was (with_format format was) old serves format_made

pub sets_the_format : (old new : State) (format : ℕ) (r : Result ℕ Error) → Executes format_text (Int (pos format) ∷ []) old new r → OnOk r ((was : Content) → IsOpenWith was old → IsOpenWith (with_format format was) new)
sets_the_format old new format (Err e) h = tt
sets_the_format old new format (Ok count) h = λ was serves. format_is_set was format old serves new count h

-- ---- a transaction

pub begins : (old new : State) (r : Result ℕ Error) → Executes begin_text [] old new r → OnOk r ((was : Content) → IsOpenWith was old → Writing was new)
begins old new (Err e) h = tt
begins old new (Ok count) h = λ was serves.
    let ran = runs_as begin_text [] old new copy_schema serves.schema _ begin_is.0 begin_is.1 count h in
    record {
      is_open = ran.1.is_open;
      inside = ran.1.mode;
      schema = ap (λ (d : Database). d.schema) ran.1.now_is ∙ serves.schema;
      holds = subst (λ (d : Database). Holds was d.trees) (sym ran.1.now_is) serves.holds;
    }

pub begin_commits : (old : State) (was : Content) (db : Trees) → IsOpenWith was old → ¬ CommitsBy begin_text [] old db
begin_commits old was db serves h =
    let w = commits_write begin_text [] old copy_schema serves.schema _ begin_is.0 begin_is.1 (λ e. cc, λ name e. cc) db h in
    let refused = w.3 in cc

pub commits : (old new : State) (r : Result ℕ Error) → Executes commit_text [] old new r → OnOk r ((was : Content) → Writing was old → IsOpenWith was new)
commits old new (Err e) h = tt
commits old new (Ok count) h = λ was writing.
    let ran = runs_as commit_text [] old new copy_schema writing.schema _ commit_is.0 commit_is.1 count h in
    record {
      is_open = ran.1.is_open;
      autocommit = ran.1.mode;
      schema = ap (λ (d : Database). d.schema) ran.1.now_is ∙ writing.schema;
      committed = ran.1.committed_is ∙ sym ran.1.now_is;
      holds = subst (λ (d : Database). Holds was d.trees) (sym ran.1.now_is) writing.holds;
    }

pub commit_commits : (old : State) (was : Content) (db : Trees) → Writing was old → CommitsBy commit_text [] old db → Holds was db
commit_commits old was db writing h = elim (commits_as commit_text [] old copy_schema writing.schema _ commit_is.0 commit_is.1 db h) [
  | inl ends ↦ subst (Holds was) (sym ends.1) writing.holds
  | inr w ↦ absurd (let outside = w.0 in let inside = writing.inside in cc)
]

-- a ROLLBACK commits nothing, whatever tables there are
pub rollback_commits : (old : State) (db : Trees) → ¬ CommitsBy rollback_text [] old db
rollback_commits old db h =
    let is = rollback_is old.now.schema in
    let w = commits_write rollback_text [] old old.now.schema refl _ is.0 is.1 (λ e. cc, λ name e. cc) db h in
    let refused = w.3 in cc

-- ---- entries

-- An INSERT whose terms give these rows adds them.
module _ (sql : List ℕ) (terms : List Term) (is : command_of (understood copy_schema sql) ≡ Insert 1 (Values terms 4)) (plain : IsPlain (understood copy_schema sql)) (params : Row) (doc : List ℕ) (place : ℕ)
    (texts : List (List ℕ)) (are : value_rows params 4 (length terms / 4) terms ≡ without_ids (rows_from doc place texts)) where
  puts_by : (old new : State) (count : ℕ) → Executes sql params old new (Ok count) → (was : Content) → Writing was old → Writing (with_rows (rows_from doc place texts) was) new
  puts_by old new count h was writing =
      let w = runs_as sql params old new copy_schema writing.schema _ is plain count h in
      let adds = inserts old params terms doc place texts (statement_of sql (understood copy_schema sql)) w.tally new.now writing.schema are w.changed in
      record {
        is_open = w.shown.is_open;
        inside = w.shown.mode ∙ writing.inside;
        schema = adds.schema;
        holds = record { meta = rw adds.meta writing.holds.meta; entry = adds.entry was.rows writing.holds.entry };
      }

pub puts : (old new : State) (doc text : List ℕ) (place : ℕ) (r : Result ℕ Error) → Executes insert_text (entry_row doc place text) old new r
    → OnOk r ((was : Content) → Writing was old → Writing (with_rows (entry_row doc place text ∷ []) was) new)
puts old new doc text place (Err e) h = tt
puts old new doc text place (Ok count) h = puts_by insert_text terms insert_is insert_plain (entry_row doc place text) doc place (text ∷ []) refl old new count h

pub put_commits : (old : State) (was : Content) (params : Row) (db : Trees) → Writing was old → ¬ CommitsBy insert_text params old db
put_commits old was params db writing = inside_commits insert_text params old copy_schema writing.schema _ insert_is insert_plain (λ e. cc, λ name e. cc) writing.inside db

-- a list of so many is written out
abbrev cells : {X : Type 0} → ℕ → X → List X → List X
cells zero d xs = []
cells (suc n) d xs = get_or xs 0 d ∷ cells n d (drop 1 xs)

as_cells : {X : Type 0} (n : ℕ) (d : X) (xs : List X) → length xs ≡ n → cells n d xs ≡ xs
as_cells zero d [] is = refl
as_cells zero d (x ∷ xs) is = absurd (omega arith)
as_cells (suc n) d [] is = absurd (omega arith)
as_cells (suc n) d (x ∷ xs) is = ap (λ z. x ∷ z) (as_cells n d xs (omega arith))

abbrev Gives : List ℕ → ℕ → List (List ℕ) → Type 0
Gives doc place texts = value_rows (flat_map (λ row. row) (rows_from doc place texts)) 4 (length sixteen_terms / 4) sixteen_terms ≡ without_ids (rows_from doc place texts)

given_cells : (doc : List ℕ) (place : ℕ) (texts : List (List ℕ)) → Gives doc place (cells 16 [] texts)
given_cells doc place texts = refl

pub puts_sixteen : (old new : State) (doc : List ℕ) (texts : List (List ℕ)) (place : ℕ) → length texts ≡ 16 → (r : Result ℕ Error) → Executes sixteen_text (flat_map (λ row. row) (rows_from doc place texts)) old new r
    → OnOk r ((was : Content) → Writing was old → Writing (with_rows (rows_from doc place texts) was) new)
puts_sixteen old new doc texts place many (Err e) h = tt
puts_sixteen old new doc texts place many (Ok count) h =
    puts_by sixteen_text sixteen_terms sixteen_is.0 sixteen_is.1 (flat_map (λ row. row) (rows_from doc place texts)) doc place texts (subst (Gives doc place) (as_cells 16 [] texts many) (given_cells doc place texts)) old new count h

pub sixteen_commits : (old : State) (was : Content) (params : Row) (db : Trees) → Writing was old → ¬ CommitsBy sixteen_text params old db
sixteen_commits old was params db writing = inside_commits sixteen_text params old copy_schema writing.schema _ sixteen_is.0 sixteen_is.1 (λ e. cc, λ name e. cc) writing.inside db
