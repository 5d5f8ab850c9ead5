-- What the blocks say of counters, where one of them is set anew.
use Rattle.std.proofs.Common.{◌≡◌, ◌≤◌, ℕ, zero, suc, List, [], ◌∷◌, length-set, set, min, Option, refl, ◌∙◌, arith}
use Rattle.list_order.specs.declared.slots.SlotNumber.{SlotNumber}
use Rattle.list_order.specs.declared.marks.Mark.{Mark}
use Rattle.list_order.specs.declared.marks.MarkBlock.{MarkBlock}
use Rattle.list_order.specs.Marks.{block_at, lowered_in, IsCounted}

-- what the new block has as before is as before in each
pub set_keeps : {X : Type 0} (f : MarkBlock → X) (blocks : List MarkBlock) (k : ℕ) (block : MarkBlock) → f block ≡ f (block_at blocks k)
    → (j : ℕ) → f (block_at (set blocks k block) j) ≡ f (block_at blocks j)
set_keeps f [] k block is j = refl
set_keeps f (b ∷ blocks) zero block is zero = is
set_keeps f (b ∷ blocks) zero block is (suc j) = refl
set_keeps f (b ∷ blocks) (suc k) block is zero = refl
set_keeps f (b ∷ blocks) (suc k) block is (suc j) = set_keeps f blocks k block is j

pub lowered_least : (blocks : List MarkBlock) (k counter j : ℕ) → (block_at (lowered_in blocks k counter) j).least_counter ≤ (block_at blocks j).least_counter
lowered_least [] k counter j = omega arith
lowered_least (b ∷ blocks) zero counter zero = omega arith
lowered_least (b ∷ blocks) zero counter (suc j) = omega arith
lowered_least (b ∷ blocks) (suc k) counter zero = omega arith
lowered_least (b ∷ blocks) (suc k) counter (suc j) = lowered_least blocks k counter j

pub lowered_there : (blocks : List MarkBlock) (k counter : ℕ) → (block_at (lowered_in blocks k counter) k).least_counter ≤ counter
lowered_there [] k counter = omega arith
lowered_there (b ∷ blocks) zero counter = omega arith
lowered_there (b ∷ blocks) (suc k) counter = lowered_there blocks k counter

-- counts and ends stay
pub counted_lowered : {marks : List Mark} {blocks : List MarkBlock} {path : List SlotNumber} {at : Option SlotNumber} (k counter : ℕ)
    → IsCounted marks blocks path at → IsCounted marks (lowered_in blocks k counter) path at
counted_lowered {marks} {blocks} {path} {at} k counter h =
    let block : MarkBlock = record {
      present = (block_at blocks k).present;
      end = (block_at blocks k).end;
      least_counter = min (block_at blocks k).least_counter counter;
    } in
    record {
      rising = h.rising;
      counted = λ j less. set_keeps (λ b. b.present) blocks k block refl j ∙ h.counted j (omega (arith, less, length-set blocks k block));
      ends = λ j less. set_keeps (λ b. b.end) blocks k block refl j ∙ h.ends j (omega (arith, less, length-set blocks k block));
    }
