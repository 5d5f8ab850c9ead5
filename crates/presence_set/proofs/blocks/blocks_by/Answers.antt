use Rattle.std.proofs.Common.{◌≡◌, ℕ, ◌+◌, ◌-◌, List, length, true, ap, ◌∙◌, arith, rules, slice_index_or}
use Rattle.std.proofs.lemmas.List.{get_or_default}
use Rattle.std.proofs.lemmas.Fn.{always_returns_same}
use Rattle.lamport_id.specs.declared.id.Id.{Id}
use Rattle.presence_set.specs.ById.{IsAscending}
use Rattle.presence_set.specs.Blocks.{pairs_in, starts_by, blocks_by, AreNonEmpty}
use Rattle.presence_set.proofs.BlockLaws.{starts_first, blocks_by_is}
use Rattle.presence_set.proofs.blocks.blocks_by.Goals as goal

-- where the last block starts with an id that isn't greater, all do
all_start : {X : Type 0} (blocks : List (List (Id × X) × ℕ)) (id : Id) (i : ℕ) (last : List (Id × X) × ℕ) → AreNonEmpty blocks
    → IsAscending (pairs_in blocks) → i + 1 ≡ length blocks → starts_by id (slice_index_or blocks i last).0 ≡ true → length blocks ≡ blocks_by id blocks
all_start {X} blocks id i last filled rising end starts =
    let at : (d : List (Id × X) × ℕ) → starts_by id (slice_index_or blocks i d).0 ≡ true =
    λ d. ap (λ b. starts_by id b.0) (get_or_default blocks i d last (omega (arith, end))) ∙ starts in
    blocks_by_is blocks id (length blocks) (omega arith)
    ((λ k d from below. starts_first blocks id filled rising k i d (omega (arith, end)) (omega (arith, end)) (at d)), (λ k d from below. absurd (omega arith)))

pub returns-clause-value : goal.returns-clause-value
returns-clause-value g c =
    let blocks = c.args.blocks.now in
    let id = c.args.id.now in
    blocks_by_is blocks id c.partition_point.result c.partition_point.ensures.bound
    (c.partition_point.ensures.partitioned (λ b. starts_by id b.0) (always_returns_same _ _ _ (λ a r f k. search rules)) (starts_first blocks id c.requires.filled c.requires.rising))

pub returns-then-starts_by-clause-value : goal.returns-then-starts_by-clause-value
returns-then-starts_by-clause-value g c =
    let blocks = c.args.blocks.now in
    let id = c.args.id.now in
    let some = c.if-count-gt0.true in
    let item = c.index-blocks-count.result in
    let starts : starts_by id (slice_index_or blocks (length blocks - 1) item).0 ≡ true = search (rules, c.starts_by.ensures, c.if-starts_by.true, c.entries.ensures.value) in
    all_start blocks id (length blocks - 1) item c.requires.filled c.requires.rising (omega (arith, some)) starts
