-- Statements that were run one after another.
use Rattle.std.proofs.Common.{◌≡◌, ◌+◌, ◌<◌, ℕ, List, [], ◌∷◌, ◌++◌, map, take, drop, length, get_or, Result, Ok, Err, OnOk, IfErr, IsErrAnd, refl, sym, ap, subst, ◌∙◌, inl, inr, arith}
use Rattle.std.proofs.lemmas.Result.{on_ok_weaker, IfErr-weaker}
use Rattle.std.proofs.lemmas.List.{take-append-drop, take_more, map-append}
use Rattle.sqlite_trees.specs.declared.store.Store.{Ghosts}
use Rattle.sqlite.specs.declared.error.Error.{Error}
use Rattle.sqlite.specs.Tree.{Trees}
use Rattle.sqlite.specs.Held.{Held, state}
use Rattle.sqlite.specs.State.{HasCleanDisk, Survives, CommitsBy}
use Rattle.sqlite.proofs.StateLemmas.{survives_then, survives_weaker}
use Rattle.stored_rows.specs.Statements.{Statement, RunsTo, Ran, RanAll, StopsBy, CommitsOneOf, RunsThrough}

pub ran : {S : Type 0} (g : Ghosts S) (it : Statement) (old new : Held S) (r : Result ℕ Error) → RunsTo g it old new r → OnOk r (Ran g it old new)
ran g it old new (Ok count) h = (count, h)
ran g it old new (Err e) h = tt

pub fails : {S : Type 0} (g : Ghosts S) (it : Statement) (old new : Held S) (r : Result ℕ Error) → RunsTo g it old new r → IfErr r (StopsBy g (it ∷ []) old new)
fails g it old new (Ok count) h = tt
fails g it old new (Err e) h = inl h

pub ran_after : {S : Type 0} (g : Ghosts S) (its more : List Statement) (old mid new : Held S) → RanAll g its old mid → RanAll g more mid new → RanAll g (its ++ more) old new
ran_after g [] more old mid new same h = subst (λ c. RanAll g more c new) (sym same) h
ran_after g (it ∷ its) more old mid new all h = (all.0, all.1, ran_after g its more all.0 mid new all.2 h)

pub stops_after : {S : Type 0} (g : Ghosts S) (its more : List Statement) (old mid new : Held S) (error : Error) → RanAll g its old mid → StopsBy g more mid new error → StopsBy g (its ++ more) old new error
stops_after g [] more old mid new error same h = subst (λ c. StopsBy g more c new error) (sym same) h
stops_after g (it ∷ its) more old mid new error all h = inr (all.0, all.1, stops_after g its more all.0 mid new error all.2 h)

pub stops_before : {S : Type 0} (g : Ghosts S) (its more : List Statement) (old new : Held S) (error : Error) → StopsBy g its old new error → StopsBy g (its ++ more) old new error
stops_before g [] more old new error h = absurd h
stops_before g (it ∷ its) more old new error (inl h) = inl h
stops_before g (it ∷ its) more old new error (inr h) = inr (h.0, h.1, stops_before g its more h.0 new error h.2)

commits_before : {S : Type 0} (g : Ghosts S) (its more : List Statement) (old : Held S) (db : Trees) → CommitsOneOf g its old db → CommitsOneOf g (its ++ more) old db
commits_before g [] more old db h = absurd h
commits_before g (it ∷ its) more old db (inl h) = inl h
commits_before g (it ∷ its) more old db (inr h) = inr (h.0, h.1, commits_before g its more h.0 db h.2)

commits_after : {S : Type 0} (g : Ghosts S) (its more : List Statement) (old mid : Held S) (db : Trees) → RanAll g its old mid → CommitsOneOf g more mid db → CommitsOneOf g (its ++ more) old db
commits_after g [] more old mid db same h = subst (λ c. CommitsOneOf g more c db) (sym same) h
commits_after g (it ∷ its) more old mid db all h = inr (all.0, all.1, commits_after g its more all.0 mid db all.2 h)

-- ---- in turn

pub runs_none : {S T : Type 0} (g : Ghosts S) (c : Held S) (x : T) → RunsThrough g [] c c (Ok x)
runs_none g c x = record {
  crash = record { clean = omega arith; shield = λ h. h; counts = omega arith; limit = refl; closes = λ clean h. inl h; crash = λ clean db h. inl h };
  ran = λ clean. refl;
  err = λ clean. tt;
}

pub runs_one : {S : Type 0} (g : Ghosts S) (it : Statement) (old new : Held S) (r : Result ℕ Error) → (HasCleanDisk (state g new) → RunsTo g it old new r) → Survives (state g old) (state g new) (CommitsBy it.text it.params (state g old))
    → RunsThrough g (it ∷ []) old new r
runs_one g it old new r runs survives = record {
  crash = survives_weaker (state g old) (state g new) _ _ (λ clean db h. inl h) survives;
  ran = λ clean. on_ok_weaker r (λ h. (new, h, refl)) (ran g it old new r (runs clean));
  err = λ clean. fails g it old new r (runs clean);
}

pub runs_then : {S T U : Type 0} (g : Ghosts S) (its more : List Statement) (old mid new : Held S) (x : T) (r : Result U Error) → RunsThrough g its old mid (Ok x) → RunsThrough g more mid new r
    → RunsThrough g (its ++ more) old new r
runs_then g its more old mid new x r first second =
    let before : HasCleanDisk (state g new) → RanAll g its old mid = λ clean. first.ran (omega (arith, second.crash.clean)) in
    record {
      crash = survives_then (state g old) (state g mid) (state g new) _ _ _ (λ clean db h. commits_before g its more old db h) (λ clean db h. commits_after g its more old mid db (before clean) h) first.crash second.crash;
      ran = λ clean. on_ok_weaker r (ran_after g its more old mid new (before clean)) (second.ran clean);
      err = λ clean. IfErr-weaker r _ _ (λ e h. stops_after g its more old mid new e (before clean) h) (second.err clean);
    }

-- the error that a `?` passes on
pub runs_until : {S T U : Type 0} (g : Ghosts S) (its more : List Statement) (old new : Held S) (e : Error) (r : Result U Error) → IsErrAnd r (λ y. y ≡ e) → RunsThrough {T = T} g its old new (Err e)
    → RunsThrough g (its ++ more) old new r
runs_until g its more old new e (Ok x) is h = absurd is
runs_until g its more old new e (Err y) is h = record {
  crash = survives_weaker (state g old) (state g new) _ _ (λ clean db w. commits_before g its more old db w) h.crash;
  ran = λ clean. tt;
  err = λ clean. subst (StopsBy g (its ++ more) old new) (sym is) (stops_before g its more old new e (h.err clean));
}

-- ---- a loop over statements

module _ {S X : Type 0} (g : Ghosts S) (f : List X → List Statement) (xs : List X) (i : ℕ) (it : Statement) (more : f (take (i + 1) xs) ≡ f (take i xs) ++ it ∷ []) (old mid new : Held S) where
  pub runs_next : {T U V : Type 0} (x : T) (n : U) (y : V) → RunsThrough g (f (take i xs)) old mid (Ok x) → RunsThrough g (it ∷ []) mid new (Ok n) → RunsThrough g (f (take (i + 1) xs)) old new (Ok y)
  runs_next x n y before h =
      let both = runs_then g (f (take i xs)) (it ∷ []) old mid new x (Ok n) before h in
      subst (λ its. RunsThrough g its old new (Ok y)) (sym more) (record { crash = both.crash; ran = both.ran; err = both.err })

  pub runs_no_further : {T U V : Type 0} (rest : List Statement) → f xs ≡ f (take (i + 1) xs) ++ rest → (x : T) (e : Error) (r : Result V Error) → IsErrAnd r (λ y. y ≡ e) → RunsThrough g (f (take i xs)) old mid (Ok x)
      → RunsThrough {T = U} g (it ∷ []) mid new (Err e) → RunsThrough g (f xs) old new r
  runs_no_further rest whole x e r is before h =
      let both = runs_then g (f (take i xs)) (it ∷ []) old mid new x (Err e) before h in
      subst (λ its. RunsThrough g its old new r) (sym (whole ∙ ap (λ z. z ++ rest) more)) (runs_until g (f (take i xs) ++ it ∷ []) rest old new e r is both)

-- ---- parts of a list

pub one_more : {X Y : Type 0} (f : X → Y) (xs : List X) (i : ℕ) (d : X) → i < length xs → map f (take (i + 1) xs) ≡ map f (take i xs) ++ f (get_or xs i d) ∷ []
one_more f xs i d below = ap (map f) (take_more xs i d below) ∙ map-append f (take i xs) (get_or xs i d ∷ [])

pub and_rest : {X Y : Type 0} (f : X → Y) (xs : List X) (i : ℕ) → map f xs ≡ map f (take i xs) ++ map f (drop i xs)
and_rest f xs i = ap (map f) (sym (take-append-drop i xs)) ∙ map-append f (take i xs) (drop i xs)
