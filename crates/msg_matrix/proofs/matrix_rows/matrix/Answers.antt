use Rattle.std.proofs.Common.{◌≡◌, ◌+◌, List, [], ◌∷◌, ◌++◌, take, get_or, map, Bool, cond, ap, subst, sym}
use Rattle.std.proofs.Common.{◌∙◌, arith, append-nil}
use Rattle.std.proofs.lemmas.List.{take_all}
use Rattle.list_lemmas.proofs.InOrder.{values_by_key}
use Rattle.trace_base.proofs.Pairs.{pair_cmp-total}
use Rattle.trace_base.specs.Matrix.{matrix_of, pair_cmp, pair_row, pairs_of, sent_within}
use Rattle.trace_base.specs.declared.messages.Message.{Message}
use Rattle.msg_matrix.specs.Pairs.{Pairs, empty_row}
use Rattle.msg_matrix.proofs.Sums.{HasRows, HasRows-as, HasRows-more, HasRows-none, sent_within-more}
use Rattle.msg_matrix.proofs.matrix_rows.matrix.Goals as goal
use Rattle.msg_matrix.proofs.matrix_rows.matrix.Goals.{then-is_sent_within+in_ok-add, else-is_sent_within}

pub loop-m-init : goal.loop-m-init
loop-m-init c = HasRows-none c.new-pairs.result c.new-pairs.ensures.empty

pub loop-m-preserved : goal.loop-m-preserved
loop-m-preserved c =
    let ms = c.as_slice-m-items.result.now in
    let d : Message = record { from = 0; to = 0; send = 0; receive = 0; size = 0 } in
    let m : Message = get_or ms c.loop-m.m-index d in
    let xs : List Message = sent_within c.args.a c.args.b (take c.loop-m.m-index ms) in
    let next : sent_within c.args.a c.args.b (take (c.loop-m.m-index + 1) ms) ≡ xs
    ++ cond c.is_sent_within.result (m ∷ []) [] =
    sent_within-more c.args.a c.args.b ms c.loop-m.m-index d c.loop-m-test.true ∙ ap
    (λ (b : Bool). xs ++ cond b (m ∷ []) []) (sym c.is_sent_within.ensures) in
    elim c.if-is_sent_within.branch [
      | then-is_sent_within+in_ok-add w ↦ (
          let more : sent_within c.args.a c.args.b (take (c.loop-m.m-index + 1) ms) ≡ xs ++ m
          ∷ [] = next ∙ ap (λ (b : Bool). xs ++ cond b (m ∷ []) []) w.if-is_sent_within.true in
          subst (λ (t : Pairs). HasRows t (sent_within c.args.a c.args.b (take (c.loop-m.m-index + 1) ms))
          (c.loop-m.m-index + 1)) (sym w.pairs-is)
          (subst (λ (ys : List Message). HasRows w.add.new.pairs ys (c.loop-m.m-index + 1)) (sym more)
          (HasRows-more c.loop-m.pairs w.add.new.pairs xs m c.loop-m.m-index c.loop-m.invariant
          w.in_ok-add.ensures.rows w.in_ok-add.ensures.in_order w.in_ok-add.ensures.limits)))
      | else-is_sent_within w ↦ (
          let same : sent_within c.args.a c.args.b (take (c.loop-m.m-index + 1) ms) ≡ xs =
          next ∙ ap (λ (b : Bool). xs ++ cond b (m ∷ []) []) w.if-is_sent_within.false ∙ append-nil xs in
          subst (λ (t : Pairs). HasRows t (sent_within c.args.a c.args.b (take (c.loop-m.m-index + 1) ms))
          (c.loop-m.m-index + 1)) (sym w.pairs-is)
          (subst (λ (ys : List Message). HasRows c.loop-m.pairs ys (c.loop-m.m-index + 1)) (sym same)
          (HasRows-as c.loop-m.pairs xs c.loop-m.m-index (c.loop-m.m-index + 1) (omega arith)
          c.loop-m.invariant)))
    ]

pub returns : goal.returns
unfolding matrix_of
returns c =
    let sel : List Message = sent_within c.args.a c.args.b c.args.t.now.messages in
    let full : sent_within c.args.a c.args.b (take c.loop-m.m-index c.as_slice-m-items.result.now) ≡ sel =
    ap (sent_within c.args.a c.args.b) (take_all c.loop-m.m-index c.as_slice-m-items.result.now
    c.loop-m-test.false ∙ c.as_slice-m-items.ensures) in
    let has : HasRows c.loop-m.pairs sel c.loop-m.m-index =
    subst (λ (ys : List Message). HasRows c.loop-m.pairs ys c.loop-m.m-index) full c.loop-m.invariant in
    let rows : c.from_vec.result ≡ map (pair_row sel) (pairs_of sel) =
    c.from_vec.ensures ∙ c.in_ok-rows.ensures.exact
    ∙ values_by_key pair_cmp pair_cmp-total (pair_row sel) empty_row c.loop-m.pairs.entries
    c.in_ok-rows.ensures.ordered has.rows ∙ ap (map (pair_row sel)) has.in_order in
    cc
