use Rattle.std.proofs.Common.{◌++◌, ◌<◌, ◌-◌, [], length, refl, sym, ap, subst, ◌∙◌, append-nil, append_assoc, arith}
use Rattle.std.proofs.lemmas.Option.{slice_get_read}
use Rattle.sha2.specs.Hashers.{Holds256}
use Rattle.doc_api.specs.Words.{Id}
use Rattle.doc_rules.specs.Chains.{chain_between, chain_line, chain_lines}
use Rattle.doc_rules.proofs.Chained.{chain_ended}
use Rattle.log_chains.proofs.Hashing.{hashed_all, hashed_next}
use Rattle.log_chains.proofs.chains.hash_chain.Goals as goal

pub loop-reached-init : goal.loop-reached-init
loop-reached-init c = ([], (λ m h. subst (Holds256 c.args.hasher.now) (sym (append-nil m)) h), refl)

pub returns-then-at-len-clause-ok : goal.returns-then-at-len-clause-ok
returns-then-at-len-clause-ok c m h =
    hashed_all (Holds256 c.loop-reached.hasher) m c.loop-reached.invariant.0 _ _ c.loop-reached.invariant.2
    (ap chain_lines (c.next_of-at.ensures.none (c.if-at-len.true ∙ c.len.ensures.len))) (c.loop-reached.invariant.1 m h)

pub loop-reached-smaller : goal.loop-reached-smaller
loop-reached-smaller c =
    let log = c.args.log.now.operations in
    let at = c.next_of-at.result in
    let next = c.next_of-at.ensures in
    let within : at < length log = omega (arith, next.within, c.len.ensures.len, c.if-at-len.false) in
    let op = c.index-as_slice-at.result in
    let leads = next.next op (slice_get_read log (length log) at op refl within (rw c.as_slice.ensures at c.index-as_slice-at.is)) in
    let less : c.args.last - c.id-reached.result.counter < c.args.last - c.loop-reached.reached =
    omega (arith, leads.higher, leads.up_to, ap (λ (i : Id). i.counter) c.id-reached.ensures.value) in
    less

pub loop-reached-preserved : goal.loop-reached-preserved
loop-reached-preserved c =
    let log = c.args.log.now.operations in
    let at = c.next_of-at.result in
    let next = c.next_of-at.ensures in
    let within : at < length log = omega (arith, next.within, c.len.ensures.len, c.if-at-len.false) in
    let op = c.index-as_slice-at.result in
    let done = c.loop-reached.invariant.0 in
    let leads = next.next op (slice_get_read log (length log) at op refl within (rw c.as_slice.ensures at c.index-as_slice-at.is)) in (
      done ++ chain_line op,
      λ m h. hashed_next (Holds256 c.hash_line.new.hasher) m done (chain_line op) (c.in_ok-line.ensures.ok (m ++ done) (c.loop-reached.invariant.1 m h)),
      c.loop-reached.invariant.2 ∙ ap (λ ops. done ++ chain_lines ops) leads.chain ∙ sym (append_assoc done (chain_line op) (chain_lines (chain_between c.args.name.now op.id.counter c.args.last log)))
          ∙ ap (λ (i : Id). (done ++ chain_line op) ++ chain_lines (chain_between c.args.name.now i.counter c.args.last log)) (sym c.id-reached.ensures.value),
    )

pub returns-clause-ok : goal.returns-clause-ok
returns-clause-ok c m h =
    hashed_all (Holds256 c.loop-reached.hasher) m c.loop-reached.invariant.0 _ _ c.loop-reached.invariant.2
    (ap chain_lines (chain_ended c.args.name.now c.loop-reached.reached c.args.last c.args.log.now.operations (omega (arith, c.loop-reached-test.false)))) (c.loop-reached.invariant.1 m h)
