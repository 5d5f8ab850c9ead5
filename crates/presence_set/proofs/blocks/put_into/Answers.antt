use Rattle.std.proofs.Common.{◌≡◌, ◌<◌, ◌∙◌, ◌++◌, suc, rules, sym, ap, subst, length, set, get_or}
use Rattle.presence_set.specs.ById.{put_at_id, IsAscending}
use Rattle.presence_set.specs.Blocks.{pairs_in, has_pair, blocks_by, AreNonEmpty, HasSpareRoom}
use Rattle.presence_set.proofs.BlockLaws.{rising_parts, put_first, put_rest, room_at, filled-set, put_has, rooms-but}
use Rattle.presence_set.proofs.blocks.put_into.Goals as goal

pub blocks_by-requires : goal.blocks_by-requires
blocks_by-requires g c = (
  search rules,
  (
    subst AreNonEmpty (sym c.as_slice.ensures.value) c.requires.filled,
    subst (λ l. IsAscending (pairs_in l)) (sym c.as_slice.ensures.value) (rising_parts c.args.first.now.0 (pairs_in c.args.rest.now.items) c.requires.rising).1,
  ),
)

pub put-requires-in-Some : goal.put-requires-in-Some
put-requires-in-Some g c =
    let rest = c.args.rest.now.items in
    let within : c.in-Some.at < length rest = search rules in
    let is : c.index_mut-block.result.now ≡ get_or rest c.in-Some.at c.index_mut-block.result.now = search rules in
    (search rules, subst HasSpareRoom (sym is) (room_at rest c.in-Some.at c.index_mut-block.result.now c.requires.rest within))

pub returns-in-None-clause-same : goal.returns-in-None-clause-same
returns-in-None-clause-same g c =
    let rest = c.args.rest.now.items in
    let none : c.blocks_by.result ≡ 0 = search rules in
    let at : blocks_by c.args.id rest ≡ 0 = ap (blocks_by c.args.id) (sym c.as_slice.ensures.value) ∙ sym c.blocks_by.ensures.value ∙ none in
    ap (λ z. z.0 ++ pairs_in rest) c.put.ensures ∙ sym (put_first c.args.first.now.0 rest c.args.id c.args.value c.requires.filled at)

pub returns-in-Some-clause-same : goal.returns-in-Some-clause-same
returns-in-Some-clause-same g c =
    let rest = c.args.rest.now.items in
    let k = c.in-Some.at in
    let d = c.index_mut-block.result.now in
    let more : c.blocks_by.result ≡ suc k = search rules in
    let at : blocks_by c.args.id rest ≡ suc k = ap (blocks_by c.args.id) (sym c.as_slice.ensures.value) ∙ sym c.blocks_by.ensures.value ∙ more in
    let is : d ≡ get_or rest k d = search rules in
    let new = c.put-in-Some.ensures ∙ ap (λ z. (put_at_id z.0 c.args.id c.args.value, z.1)) is in
    ap (λ z. c.args.first.now.0 ++ pairs_in (set rest k z)) new
    ∙ sym (put_rest c.args.first.now.0 rest c.args.id c.args.value k d c.requires.rising c.requires.filled at)

pub returns-in-Some-clause-filled : goal.returns-in-Some-clause-filled
returns-in-Some-clause-filled g c =
    let d = c.index_mut-block.result.now in
    filled-set c.args.rest.now.items c.in-Some.at c.put-in-Some.new.self c.requires.filled
    (ap (λ z. has_pair z.0) c.put-in-Some.ensures ∙ put_has d.0 c.args.id c.args.value)

pub returns-in-Some-clause-room : goal.returns-in-Some-clause-room
returns-in-Some-clause-room g c =
    let rest = c.args.rest.now.items in
    let within : c.in-Some.at < length rest = search rules in
    rooms-but c.args.first.now rest c.in-Some.at c.put-in-Some.new.self c.requires.first c.requires.rest within
