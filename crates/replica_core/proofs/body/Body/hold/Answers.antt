use Rattle.std.proofs.Common.{◌≡◌, ◌≤◌, ◌<◌, length, Result, Ok, Err, ap, sym, subst, ◌∙◌, arith}
use Rattle.std.specs.Prelude.{⊤, OnOk, OnErr}
use Rattle.doc_api.specs.Words.{Refusal, Op}
use Rattle.crdt_rules.specs.Dependencies.{missing}
use Rattle.doc_rules.specs.Replica.{put_among}
use Rattle.doc_rules.proofs.Held.{length-put_among}
use Rattle.hold_buffer.specs.Held.{Buffer}
use Rattle.replica_core.specs.Whole.{Contents}
use Rattle.replica_core.proofs.body.Body.hold.Goals as goal

-- few are held then too
few_then : (answer : Result ⊤ Refusal) (op : Op) (b c : Buffer) → length b.held < 256 → OnOk answer (c.held ≡ put_among op b.held) → OnErr answer (c ≡ b)
    → length c.held ≤ 256
few_then (Ok u) op b c room ok err = omega (arith, ap length ok, length-put_among op b.held, room)
few_then (Err e) op b c room ok err = let same = ap (λ (x : Buffer). length x.held) err in omega (arith, same, room)

pub hold_with_missing-requires : goal.hold_with_missing-requires
hold_with_missing-requires c = record { missed = (c.args.self.now.log, c.requires.missed) }

pub invariant_of-self : goal.invariant_of-self
invariant_of-self c =
    let room : length c.self.inside.held.held < 256 = subst (λ (b : Contents). length b.held < 256) (sym c.self.view_is) c.requires.room in record {
      agrees = c.self.invariant.agrees;
      current = c.hold_with_missing.ensures.current c.self.inside.log.operations (c.requires.missed ∙ ap (λ (b : Contents). missing c.args.op b.log) (sym c.self.view_is)) c.self.invariant.current;
      few = few_then c.hold_with_missing.result c.args.op c.self.inside.held c.hold_with_missing.new.self room c.hold_with_missing.ensures.ok c.hold_with_missing.ensures.err;
    }
