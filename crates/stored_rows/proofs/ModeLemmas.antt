-- What is left of a transaction by a statement that fails, and by ROLLBACK.
use Rattle.std.proofs.Common.{◌≡◌, inl, inr, ℕ, List, [], length, false, Result, Ok, Err, IfErr, refl, sym, ap, subst, ◌∙◌, arith}
use Rattle.std.proofs.lemmas.Bool.{cases_Bool}
use Rattle.sqlite.specs.Order.{Row}
use Rattle.sqlite.specs.Command.{Command}
use Rattle.sqlite.specs.Command.TheVariants.{Rollback}
use Rattle.sqlite.specs.Calls.{IsWrite}
use Rattle.sqlite.specs.declared.error.Error.{Error}
use Rattle.sqlite.specs.Listing.{understood}
use Rattle.sqlite.specs.State.{State, Executes, ExecutesIn, IsNotRun, IsNoStatement, IsMisplaced, MayChange, RunsCommand, shows_rows}
use Rattle.sqlite_resolve.specs.declared.compiled.Compiled.{Compiled}
use Rattle.sqlite.proofs.Callers.{IsPlain, command_of, runs_as}
use Rattle.stored_rows.proofs.TextLemmas.{rollback_text, rollback_is, rollback_whole, IsWholeText}

module _ (old new : State) (sql : List ℕ) (params : Row) where
  not_run : (e : Error) → IsNotRun old new sql params e → old.in_transaction ≡ false → new.in_transaction ≡ false
  unfolding IsNotRun
  not_run e h outside = elim h [ inl left ↦ left.1.0.mode ∙ outside | inr fails ↦ fails.3.autocommit ]

  not_done : (c : Compiled) (values : Row) (e : Error) → RunsCommand old new sql c values (Err e) → old.in_transaction ≡ false → new.in_transaction ≡ false
  not_done c values e h outside = elim h [ inl left ↦ left.1.0.mode ∙ outside | inr fails ↦ fails.3.autocommit ]

  -- a statement that fails begins no transaction
  pub fails_outside : (r : Result ℕ Error) → Executes sql params old new r → IfErr r (λ _. old.in_transaction ≡ false → new.in_transaction ≡ false)
  unfolding ExecutesIn
  fails_outside (Ok count) h = tt
  fails_outside (Err e) h = λ outside. elim h [
    | inl left ↦ not_run e left outside
    | inr it ↦ elim (cases_Bool (shows_rows false it.0)) [
      | inl shows ↦ (rw shows at it.2).1.0.mode ∙ outside
      | inr runs ↦ not_done it.0 _ e (rw runs at it.2) outside
    ]
  ]

-- ---- ROLLBACK

-- a text that is a statement with no parameters is taken for one
not_refused : (s : State) (size : ℕ) (sql : List ℕ) (e : Error) → length sql ≡ size → IsWholeText size (understood s.now.schema sql) → ¬ IsNoStatement s sql [] e
not_refused s size sql e is whole h = elim h [
  | inl fault ↦ subst (IsWholeText size) fault.1 whole
  | inr it ↦ let known = subst (IsWholeText size) it.1 whole in
      elim it.2 [ inl more ↦ more.0 (omega (arith, known.0)) | inr other ↦ elim other [ inl count ↦ count.0 (rw known.1 refl) | inr clock ↦ clock.0 known.2 ] ]
]

-- ROLLBACK is misplaced only outside a transaction
misplaced : (s : State) (command : Command) (e : Error) → command ≡ Rollback → IsMisplaced s command e → s.in_transaction ≡ false
misplaced s command e is h = elim h [
  | inl placed ↦ elim placed.1 [ inl begins ↦ absurd (let other = begins.0 in cc) | inr ends ↦ ends.1 ]
  | inr marked ↦ absurd (elim marked.2 [ inl other ↦ cc | inr other ↦ cc ])
]

no_change : (c : Compiled) → c.command ≡ Rollback → IsPlain (Ok c) → ¬ MayChange c
no_change c is plain h = elim h [ inl writes ↦ subst IsWrite is writes | inr shows ↦ let none = plain.0 in cc ]

-- whatever it answers
pub rolls_back : (old new : State) (r : Result ℕ Error) → Executes rollback_text [] old new r → new.in_transaction ≡ false
unfolding ExecutesIn IsNotRun
rolls_back old new (Ok count) h = (runs_as rollback_text [] old new old.now.schema refl _ (rollback_is old.now.schema).0 (rollback_is old.now.schema).1 count h).1.autocommit
rolls_back old new (Err e) h = elim h [
  | inl left ↦ elim left [
    | inl refused ↦ absurd (not_refused old _ rollback_text e refl (rollback_whole old.now.schema) refused.0)
    | inr fails ↦ fails.3.autocommit
  ]
  | inr it ↦
      let known = it.1.is in
      let is : it.0.command ≡ Rollback = sym (ap command_of known) ∙ (rollback_is old.now.schema).0 in
      let plain = subst IsPlain known (rollback_is old.now.schema).1 in
      elim (cases_Bool (shows_rows false it.0)) [
        | inl shows ↦ absurd (let none = plain.0 in cc)
        | inr runs ↦ elim (rw runs at it.2) [
          | inl left ↦ left.1.0.mode ∙ elim left.0 [ inl placed ↦ misplaced old it.0.command e is placed | inr may ↦ absurd (no_change it.0 is plain may.0) ]
          | inr fails ↦ fails.3.autocommit
        ]
      ]
]
