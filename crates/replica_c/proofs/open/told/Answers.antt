use Rattle.std.proofs.Common.{◌≡◌, ℕ, Bool, false, List, ◌++◌, Option, Some, Result, Ok, Err, OnOk, sym, subst}
use Rattle.std.specs.Result.{is_ok}
use Rattle.std.specs.Io.KnownBytes.{Appends, Keeps}
use Rattle.std.proofs.KnownBytes.{Appends-kept}
use Rattle.line_feed.specs.Cut.{taken}
use Rattle.line_proto.specs.Writing.{is_device}
use Rattle.line_proto.specs.declared.write.WriteFault.{WriteFault}
use Rattle.replica_c.specs.Serving.{IsTold}
use Rattle.replica_c.proofs.open.told.Goals as goal

-- a writer that hasn't failed holds what counts as taken
told_by : (r : Result (Unit {0}) WriteFault) (is failed : Bool) (before after : Option (List ℕ)) (text line now : List ℕ) → is ≡ is_ok r
    → before ≡ Some text → OnOk r (Appends before after line) → failed ≡ is_device r → (failed ≡ false → Keeps after (Some now))
    → IsTold is (text ++ line) now
told_by (Err e) is failed before after text line now well begins appends works keeps =
    subst (λ (b : Bool). IsTold b (text ++ line) now) (sym well) tt
told_by (Ok v) is failed before after text line now well begins appends works keeps =
    subst (λ (b : Bool). IsTold b (text ++ line) now) (sym well)
    (subst (λ a. Appends a (Some now) line) begins (Appends-kept before after (Some now) line appends (keeps works)))

pub returns : goal.returns
returns c =
    let first = c.new-sink.ensures in
    let last = c.write.new.sink in
    told_by c.write.result c.is_ok-is_told.result _ _ (taken (Some last.writer.items) last.is_dirty last.flush_failed) c.args.text.items _ c.into_inner.result.items
    c.is_ok-is_told.ensures.value (λ i. taken (Some (first.writer i).items) (first.flushed i) (first.flushes i)) c.write.ensures.ok c.write.ensures.failed
    c.into_inner.ensures.bytes
