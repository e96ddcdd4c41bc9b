-- The events of a node's branches, and what is left of them.
use Rattle.std.proofs.Common.{◌≡◌, ℕ, ◌+◌, ◌≤◌, zero, suc, List, [], ◌∷◌, ◌++◌, length, drop, refl, sym}
use Rattle.std.proofs.Common.{ap, subst, ◌∙◌, arith}
use Rattle.std.proofs.Common.{Option, Some, None, slice_get, option_map, append_assoc, append-nil, Bool, true}
use Rattle.std.proofs.Common.{false, cond, eqb}
use Rattle.std.proofs.lemmas.List.{drop_all}
use Rattle.std.proofs.lemmas.Option.{none-some}
use Rattle.node_key.specs.Tree.{Tree, Kids, no_kids, kid, count, total, nodes, nodes_below}
use Rattle.node_key.specs.Branches.{branches}
use Rattle.node_key.specs.declared.tree.Branch.{Branch}
use Rattle.trace_base.specs.declared.stream.Event.{Event}
use Rattle.trace_base.specs.declared.stream.Event.TheVariants.{Enter, Leave}
use Rattle.node_key.specs.Events.{events, events_below}

-- the events of branches, of which the time before the first begins at `from`
abbrev pub events_from : ℕ → List Branch → List Event
events_from from [] = []
events_from from (b ∷ bs) = events b.tree (from + b.gap) ++ events_from (from + b.gap + b.tree.dur) bs

-- the gaps and the durations of branches, added up
abbrev pub total_of : List Branch → ℕ
total_of [] = 0
total_of (b ∷ bs) = b.gap + b.tree.dur + total_of bs

pub events_below-branches : (from : ℕ) (k : Kids) → events_below from k ≡ events_from from (branches k)
unfolding events
events_below-branches from no_kids = refl
events_below-branches from (kid gap func dur inner more) =
    ap (λ (es : List Event). events (record { func = func; dur = dur; kids = inner }) (from + gap) ++ es)
    (events_below-branches (from + gap + dur) more)

pub total-branches : (k : Kids) → total k ≡ total_of (branches k)
total-branches no_kids = refl
total-branches (kid gap func dur inner more) = omega (arith, total-branches more)

pub count-branches : (k : Kids) → count k ≡ length (branches k)
count-branches no_kids = refl
count-branches (kid gap func dur inner more) = omega (arith, count-branches more)

-- the branch of a gap and a tree
pub branch_is : (o : Option Branch) (gap : ℕ) (t : Tree) → option_map (λ (b : Branch). b.gap) o ≡ Some gap
    → option_map (λ (b : Branch). b.tree) o ≡ Some t → o ≡ Some (record { gap = gap; tree = t })
branch_is None gap t e f = cc
branch_is (Some b) gap t e f =
    let g : b.gap ≡ gap = cc in
    let h : b.tree ≡ t = cc in
    ap (λ (x : ℕ). let o : Option Branch = Some (record { gap = x; tree = b.tree }) in o) g
    ∙ ap (λ (x : Tree). let o : Option Branch = Some (record { gap = gap; tree = x }) in o) h

-- what is left from an index on begins with the branch there
pub drop-branch : (bs : List Branch) (i : ℕ) (b : Branch) → slice_get bs i ≡ Some b → drop i bs ≡ b
    ∷ drop (i + 1) bs
drop-branch [] i b e = cc
drop-branch (x ∷ xs) zero b e = let same : x ≡ b = cc in ap (λ (y : Branch). y ∷ xs) same
drop-branch (x ∷ xs) (suc i) b e =
    drop-branch xs i b e ∙ ap (λ (n : ℕ). b ∷ drop n (x ∷ xs)) (let n : suc (i + 1) ≡ suc i + 1 = omega arith
    in n)

-- a branch has fewer nodes than the tree
pub nodes-branch : (k : Kids) (i : ℕ) (b : Branch) → slice_get (branches k) i ≡ Some b
    → nodes b.tree ≤ nodes_below k
nodes-branch no_kids i b e = absurd (none-some _ e)
nodes-branch (kid gap func dur inner more) zero b e =
    let same : record { gap = gap; tree = record { func = func; dur = dur; kids = inner } } ≡ b = cc
    in omega (arith, ap (λ (b : Branch). nodes b.tree) same)
nodes-branch (kid gap func dur inner more) (suc i) b e = omega (arith, nodes-branch more i b e)

-- The events so far and those of the branches from index i on are the whole, and the branches end by `end`.
pub record Writing (k : Kids) (end : ℕ) (whole so_far : List Event) (from i : ℕ) : Type 0 where
  pub written : so_far ++ events_from from (drop i (branches k)) ≡ whole
  pub ends : from + total_of (drop i (branches k)) ≤ end

pub Writing-start : (k : Kids) (at end : ℕ) (so_far : List Event) → at + total k ≤ end
    → Writing k end (so_far ++ events_below at k) so_far at 0
Writing-start k at end so_far h = record {
  written = ap (λ (es : List Event). so_far ++ es) (sym (events_below-branches at k));
  ends = omega (arith, total-branches k);
}

-- where the branch at i lies
pub Writing-next : (k : Kids) (end : ℕ) (whole so_far : List Event) (from i : ℕ) (b : Branch)
    → Writing k end whole so_far from i
    → slice_get (branches k) i ≡ Some b → from + b.gap + b.tree.dur ≤ end
Writing-next k end whole so_far from i b w here =
    omega (arith, w.ends, ap total_of (drop-branch (branches k) i b here))

pub Writing-more : (k : Kids) (end : ℕ) (whole so_far : List Event) (from i : ℕ) (b : Branch)
    → Writing k end whole so_far from i
    → slice_get (branches k) i ≡ Some b
    → Writing k end whole (so_far ++ events b.tree (from + b.gap)) (from + b.gap + b.tree.dur) (i + 1)
Writing-more k end whole so_far from i b w here =
    let left = drop-branch (branches k) i b here in
    record {
      written = append_assoc so_far (events b.tree (from + b.gap))
          (events_from (from + b.gap + b.tree.dur) (drop (i + 1) (branches k)))
          ∙ ap (λ (bs : List Branch). so_far ++ events_from from bs) (sym left) ∙ w.written;
      ends = omega (arith, w.ends, ap total_of left);
    }

pub Writing-end : (k : Kids) (end : ℕ) (whole so_far : List Event) (from i : ℕ)
    → Writing k end whole so_far from i → count k ≤ i
    → so_far ≡ whole
Writing-end k end whole so_far from i w all =
    sym (append-nil so_far) ∙ ap (λ (bs : List Branch). so_far ++ events_from from bs)
    (sym (drop_all i (branches k) (omega (arith, count-branches k)))) ∙ w.written

-- the events of a node are its Enter, those of its kids and its Leave
enclosed_parts : (group : Bool) (enter leave : Event) (es : List Event)
    → (cond group [] (enter ∷ []) ++ es) ++ cond group [] (leave ∷ []) ≡ cond group es (enter ∷ es ++ leave
    ∷ [])
enclosed_parts true enter leave es = append-nil es
enclosed_parts false enter leave es = refl

-- what is written before the kids, of the kids and behind them
pub events-written : (t : Tree) (at func : ℕ) (old before kids after : List Event) (leave : ℕ) → func ≡ t.func
    → before ≡ old ++ cond (eqb func 0) [] (Enter func at ∷ []) → kids ≡ before ++ events_below at t.kids
    → after ≡ kids ++ cond (eqb func 0) [] (Leave leave ∷ []) → leave ≡ at + t.dur → after ≡ old
    ++ events t at
unfolding events
events-written t at func old before kids after leave p e f g h =
    let enter = cond (eqb func 0) [] (Enter func at ∷ []) in
    let left = cond (eqb func 0) [] (Leave leave ∷ []) in
    let below = events_below at t.kids in
    g ∙ ap (λ (es : List Event). es ++ left) f ∙ ap (λ (es : List Event). (es ++ below) ++ left) e
    ∙ ap (λ (es : List Event). es ++ left) (append_assoc old enter below) ∙ append_assoc old (enter ++ below)
    left
    ∙ ap (λ (es : List Event). old ++ es) (enclosed_parts (eqb func 0) (Enter func at) (Leave leave) below)
    ∙ ap (λ (n : ℕ). old ++ cond (eqb func 0) below (Enter func at ∷ below ++ Leave n ∷ [])) h
    ∙ ap (λ (n : ℕ). old ++ cond (eqb n 0) below (Enter n at ∷ below ++ Leave (at + t.dur) ∷ [])) p

-- the same, over the values that a step gives
pub Writing-step : (k : Kids) (end : ℕ) (whole so_far so_far' : List Event) (from from' i : ℕ) (b : Branch)
    → Writing k end whole so_far from i → slice_get (branches k) i ≡ Some b
    → so_far' ≡ so_far ++ events b.tree (from + b.gap) → from' ≡ from + b.gap + b.tree.dur
    → Writing k end whole so_far' from' (i + 1)
Writing-step k end whole so_far so_far' from from' i b w here e f =
    subst (λ (es : List Event). Writing k end whole es from' (i + 1)) (sym e)
    (subst (λ (n : ℕ). Writing k end whole (so_far ++ events b.tree (from + b.gap)) n (i + 1)) (sym f)
    (Writing-more k end whole so_far from i b w here))
