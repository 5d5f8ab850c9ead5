-- What a server over a stored log has done, and what it leaves.
use Rattle.std.proofs.Common.{◌≡◌, ◌⊎◌, ◌↔◌, ℕ, Bool, true, false, List, [], Option, Result, Ok, Err, OnOk, OnErr, sym, ap, subst, refl, ◌∙◌, arith}
use Rattle.std.specs.Bool.{⊤}
use Rattle.stored_log.specs.Docs.{Doc}
use Rattle.stored_log.specs.declared.fault.Fault.{Fault}
use Rattle.stored_log.specs.declared.fault.Fault.TheVariants.{Store}
use Rattle.stored_log.specs.Log.{KeepsAll, LogState}
use Rattle.stored_log.specs.declared.port.StoredLog.{Ghosts}
use Rattle.served_log.specs.Batches.{AreAdded, AddsBatches}
use Rattle.served_log.specs.Batches.AreAdded.{none}
use Rattle.served_log.specs.Named.{IsRaised}
use Rattle.served_log.specs.Restored.{origin_at}
use Rattle.served_log.specs.Served.{KeepsRows}
use Rattle.server_core.specs.Attended.{Bytes}
use Rattle.served_log.specs.Stored.{LeavesStored, ServesFolded, ServesStored}
use Rattle.served_log.specs.Totals.{ServesSessions}
use Rattle.served_log.proofs.Keeping.{kept_by_start, then_ok}

-- what follows where a call failed
then_err : {X F P Q : Type 0} (r : Result X F) → OnErr r P → (P → Q) → OnErr r Q
then_err (Ok x) p f = tt
then_err (Err e) p f = f p

-- batches behind a log keep its rows
kept_grown : (replica : List ℕ) (names : List (List ℕ)) (begun folded new : LogState) → folded ≡ begun → AddsBatches (origin_at replica folded.docs names) names folded new
    → KeepsRows names begun new
kept_grown replica names begun folded new same more = record {
  replica = replica;
  any = more.any;
  added = subst (λ (k : LogState). AreAdded (origin_at replica k.docs names) names k.docs more.any new.docs) same more.added;
  epoch = omega (arith, more.epoch, ap (λ (k : LogState). k.epoch) same);
}

-- and so they do behind a new epoch
kept_raised : {name replica : List ℕ} (names : List (List ℕ)) (old begun new : LogState) → IsRaised name names replica old begun → KeepsRows names begun new → KeepsRows names old new
kept_raised names old begun new raised kept = record {
  replica = kept.replica;
  any = kept.any;
  added = subst (λ (docs : List Doc). AreAdded (origin_at kept.replica docs names) names docs kept.any new.docs) raised.kept kept.added;
  epoch = omega (arith, raised.raised, kept.epoch);
}

module _ {L Left : Type 0} (g : Ghosts L Left) where
  -- what is held where the log was closed, and what it still holds otherwise
  abbrev pub Held : {E : Type 0} → Result ⊤ E → L → Left → Type 0
  Held closed new last = OnOk closed ((g.log new).has_failed ≡ false → g.is_in_file new last)

  abbrev pub Kept : {E : Type 0} → Result ⊤ E → L → Left → Type 0
  Kept closed new last = OnErr closed ((g.log new).has_failed ≡ false → g.is_in_store new last)

  -- sessions over a log that was folded, and was closed behind them
  pub serves_folded : {X F E C : Type 0} (bytes : C → Bytes) (follows : C → C → Type 0) (replica : List ℕ) (names : List (List ℕ)) (connections : List C) (begun folded new : L) (served ended : Result X F) (closed : Result ⊤ E) (last : Left) (out_before out_after : Option (List ℕ))
      → ended ≡ served → g.log folded ≡ g.log begun → (g.log begun).has_failed ≡ false → (g.log new).is_alone ≡ (g.log folded).is_alone → g.was_alone begun folded
      → OnOk served (ServesSessions bytes follows (origin_at replica (g.log folded).docs names) (g.log new).docs names connections out_before out_after) → OnOk served (AddsBatches (origin_at replica (g.log folded).docs names) names (g.log folded) (g.log new)) → OnOk served ((g.log folded).has_failed ≡ false → (g.log new).has_failed ≡ false)
      → Held closed new last → OnOk ended (ServesFolded g bytes follows replica names connections begun closed last out_before out_after)
  serves_folded {X} {F} bytes follows replica names connections begun folded new served ended closed last out_before out_after is same fine same_tables alone sessions copied works held_then =
      subst (λ (r : Result X F). OnOk r (ServesFolded g bytes follows replica names connections begun closed last out_before out_after)) (sym is) (go served sessions copied works)
    where
      go : (r : Result X F) → OnOk r (ServesSessions bytes follows (origin_at replica (g.log folded).docs names) (g.log new).docs names connections out_before out_after) → OnOk r (AddsBatches (origin_at replica (g.log folded).docs names) names (g.log folded) (g.log new)) → OnOk r ((g.log folded).has_failed ≡ false → (g.log new).has_failed ≡ false)
          → OnOk r (ServesFolded g bytes follows replica names connections begun closed last out_before out_after)
      go (Ok x) told added well =
          let still_works = well (ap (λ (k : LogState). k.has_failed) same ∙ fine) in record {
            folded = folded;
            new = new;
            same = same;
            was_alone = alone;
            sessions = subst (λ (k : LogState). ServesSessions bytes follows (origin_at replica k.docs names) (g.log new).docs names connections out_before out_after) same told;
            copied = subst (λ (k : LogState). AddsBatches (origin_at replica k.docs names) names (g.log folded) (g.log new)) same added;
            alone = same_tables ∙ ap (λ (k : LogState). k.is_alone) same;
            works = still_works;
            is_in_file = then_ok closed held_then (λ h. h still_works);
          }
      go (Err e) told added well = tt

  -- what they leave
  pub leaves_folded : {E : Type 0} (replica : List ℕ) (names : List (List ℕ)) (begun folded new : L) (has_failed : Bool) (closed : Result ⊤ E) (last : Left)
      → has_failed ≡ (g.log new).has_failed → g.log folded ≡ g.log begun → (g.log new).is_alone ≡ (g.log folded).is_alone → ((g.log new).has_failed ≡ false → AddsBatches (origin_at replica (g.log folded).docs names) names (g.log folded) (g.log new))
      → Held closed new last → Kept closed new last → LeavesStored g names begun has_failed closed last
  leaves_folded replica names begun folded new has_failed closed last failed same same_tables grown held left = record {
    new = new;
    kept = λ works. kept_grown replica names (g.log begun) (g.log folded) (g.log new) same (grown (sym failed ∙ works));
    alone = same_tables ∙ ap (λ (k : LogState). k.is_alone) same;
    is_in_file = then_ok closed held (λ h works. h (sym failed ∙ works));
    left = then_err closed left (λ h works. h (sym failed ∙ works));
  }

  -- the same behind a new epoch
  pub leaves_behind : {E : Type 0} {name replica : List ℕ} (names : List (List ℕ)) (old begun : L) (has_failed : Bool) (closed : Result ⊤ E) (last : Left)
      → IsRaised name names replica (g.log old) (g.log begun) → (g.log begun).is_alone ≡ (g.log old).is_alone → LeavesStored g names begun has_failed closed last → LeavesStored g names old has_failed closed last
  leaves_behind names old begun has_failed closed last raised same_tables leaves = record {
    new = leaves.new;
    kept = λ works. kept_raised names (g.log old) (g.log begun) (g.log leaves.new) raised (leaves.kept works);
    alone = leaves.alone ∙ same_tables;
    is_in_file = leaves.is_in_file;
    left = leaves.left;
  }

  pub serves_stored : {X F E C : Type 0} {name replica : List ℕ} (bytes : C → Bytes) (follows : C → C → Type 0) (names : List (List ℕ)) (connections : List C) (old begun : L) (ended : Result X F) (closed : Result ⊤ E) (last : Left) (out_before out_after : Option (List ℕ))
      → IsRaised name names replica (g.log old) (g.log begun) → (g.log begun).is_alone ≡ (g.log old).is_alone → OnOk ended (ServesFolded g bytes follows replica names connections begun closed last out_before out_after)
      → OnOk ended (ServesStored g bytes follows name names connections old closed last out_before out_after)
  serves_stored {replica = replica} bytes follows names connections old begun ended closed last out_before out_after raised same_tables served =
      then_ok ended served (λ s. record { begun = begun; replica = replica; raised = raised; same_tables = same_tables; served = s })

  -- a start that came to nothing
  pub leaves_unbegun : {X E : Type 0} (names : List (List ℕ)) (old new : L) (r : Result X Fault) (has_failed : Bool) (closed : Result ⊤ E) (last : Left)
      → has_failed ≡ (g.log new).has_failed → ((r ≡ Err Store) ↔ ((g.log new).has_failed ≡ true)) → (r ≡ Err Store) ⊎ KeepsAll (g.log old) (g.log new).epoch (g.log new).docs
      → (g.log new).is_alone ≡ (g.log old).is_alone → Held closed new last → Kept closed new last → LeavesStored g names old has_failed closed last
  leaves_unbegun names old new r has_failed closed last failed faults kept same_tables held left = record {
    new = new;
    kept = λ works. kept_by_start {names = names} faults kept (sym failed ∙ works);
    alone = same_tables;
    is_in_file = then_ok closed held (λ h works. h (sym failed ∙ works));
    left = then_err closed left (λ h works. h (sym failed ∙ works));
  }

  -- a log that could not be folded
  pub leaves_unfolded : {E : Type 0} (names : List (List ℕ)) (begun : L) (why : E) (last : Left)
      → g.is_in_store begun last → LeavesStored g names begun false (Err why) last
  leaves_unfolded names begun why last left = record {
    new = begun;
    kept = λ works. record { replica = []; any = false; added = none; epoch = omega arith };
    alone = refl;
    is_in_file = tt;
    left = λ works. left;
  }
