use Rattle.std.proofs.Common.{arith, ◌≡◌, ◌+◌, ◌*◌, ◌%◌, ◌≤◌, refl, slice_index_or, slice_set, subst, ℕ}
use Rattle.paje_print.proofs.BundleSteps.{added_even, added_odd, clock_small}
use Rattle.paje_print.proofs.bundles.Bundles.add.Goals as goal

-- src/bundles.rt:88:21
pub overflow_add-start : goal.overflow_add-start
overflow_add-start c =
    let small : slice_index_or c.as_slice.result.now (c.args.bundle % 128) 0 ≤ 17976800 =
    clock_small c.requires.known.0 c.args.bundle c.args.self.now c.as_slice.result.now c.requires.known.1
    c.as_slice.ensures c.requires.few in
    omega arith

-- src/bundles.rt:89:19
pub overflow_add-end : goal.overflow_add-end
overflow_add-end c =
    let small : slice_index_or c.as_slice.result.now (c.args.bundle % 128) 0 ≤ 17976800 =
    clock_small c.requires.known.0 c.args.bundle c.args.self.now c.as_slice.result.now c.requires.known.1
    c.as_slice.ensures c.requires.few in
    omega arith

-- src/bundles.rt:89:19
pub overflow_add-end-3 : goal.overflow_add-end-3
overflow_add-end-3 c =
    let small : slice_index_or c.as_slice.result.now (c.args.bundle % 128) 0 ≤ 17976800 =
    clock_small c.requires.known.0 c.args.bundle c.args.self.now c.as_slice.result.now c.requires.known.1
    c.as_slice.ensures c.requires.few in
    omega arith

-- src/bundles.rt:79:5
pub returns-in_ok-send : goal.returns-in_ok-send
returns-in_ok-send c = λ seed are. added_odd seed c.args.bundle c.kernel-kernel.result
    (slice_index_or c.as_slice.result.now (c.args.bundle % 128) 0 + 1000)
    (slice_index_or c.as_slice.result.now (c.args.bundle % 128) 0 + 1000 + 200 + 1000 * (c.from.result + 1))
    (8 * (c.from-then-track-eq1.result + 1)) c.as_slice.result.now c.args.self.now _ are
    (record {
      steps = c.kernel-kernel.ensures.value;
      gives = c.kernel-kernel.ensures.kernel;
      kept = c.in_ok-push.ensures.ok;
      reads = c.as_slice.ensures;
      writes = subst (λ (w : ℕ). c.set.new.self ≡ slice_set c.args.self.now.clocks (c.args.bundle % 128)
          (slice_index_or c.as_slice.result.now (c.args.bundle % 128) 0 + 1000 + 200 + 1000 * (w + 1)))
          c.from.ensures c.set.ensures;
    }) (omega arith) refl (omega (arith, c.from.ensures)) (omega (arith, c.from-then-track-eq1.ensures))
    c.in_ok-send.ensures

-- src/bundles.rt:79:5
pub returns-else-track-eq1 : goal.returns-else-track-eq1
returns-else-track-eq1 c = λ seed are. added_even seed c.args.bundle c.kernel-kernel.result
    c.as_slice.result.now c.args.self.now _ are
    (record {
      steps = c.kernel-kernel.ensures.value;
      gives = c.kernel-kernel.ensures.kernel;
      kept = c.in_ok-push.ensures.ok;
      reads = c.as_slice.ensures;
      writes = subst (λ (w : ℕ). c.set.new.self ≡ slice_set c.args.self.now.clocks (c.args.bundle % 128)
          (slice_index_or c.as_slice.result.now (c.args.bundle % 128) 0 + 1000 + 200 + 1000 * (w + 1)))
          c.from.ensures c.set.ensures;
    }) (omega arith) refl
