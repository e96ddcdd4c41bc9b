-- A pass over the events of a legal stream under way: the calls that are open, what lies in each, and what is
-- left.
use Rattle.std.proofs.Common.{◌≡◌, ℕ, ◌+◌, ◌-◌, ◌*◌, ◌<◌, ◌≤◌, suc, List, [], ◌∷◌, ◌++◌, length}
use Rattle.std.proofs.Common.{refl, sym, ap, subst}
use Rattle.std.proofs.Common.{◌∙◌, arith, append_assoc, append-nil, length-append, reverse}
use Rattle.std.proofs.lemmas.List.{reverse-append, length-reverse}
use Rattle.std.proofs.lemmas.List.Elements.{All-weaker, All-push}
use Rattle.trace_base.specs.declared.stream.Event.{Event}
use Rattle.trace_base.specs.declared.stream.Event.TheVariants.{Enter, Leave}
use Rattle.trace_base.specs.declared.stream.TrackStream.{TrackStream}
use Rattle.trace_base.specs.Stream.{IsLegal}
use Rattle.node_key.specs.Tree.{height}
use Rattle.node_key.specs.Items.{end_of, FitBetween, node}
use Rattle.node_key.specs.declared.item.Item.{Item}
use Rattle.node_key.specs.declared.limits.TheConstants.{MAX_HEIGHT, MAX_KIDS}
use Rattle.node_key.proofs.Kids.{FitBetween-le}
use Rattle.node_key.specs.Bound.{bound}
use Rattle.call_tree.specs.Passing.{CanClose, closed_item, MayCome, PassesEvent}
use Rattle.node_key.specs.Trees.{tree}
use Rattle.call_tree.specs.declared.pass.Open.{Open}
use Rattle.call_tree.proofs.Fits.{Low, Low-nil, Low-weaker, Low-bound, height_above-low, eights}
use Rattle.call_tree.proofs.Fits.{FitBetween-upper, FitBetween-push}
use Rattle.call_tree.proofs.Forest.{Forest, call, items_of, enters}
use Rattle.call_tree.proofs.Parsing.{Fine, Closer, entered, parse, parse-is, legal_fine, legal_calls}
use Rattle.call_tree.proofs.Parsing.{enters-filter}
use Rattle.call_tree.proofs.StreamTrees.{tree-calls}

-- an open call with one more item in it
abbrev pub with_item : Open → Item → Open
with_item o i = record { func = o.func; start = o.start; items = o.items ++ i ∷ [] }

-- What lies in the outermost open call in the end, where these calls are open, the innermost first, and the
-- calls that are left are these.
abbrev pub finish : List Open → Open → Forest → List Closer → List Item
finish [] innermost F later = innermost.items ++ items_of F
finish (o ∷ os) innermost F [] = []
finish (o ∷ os) innermost F (c ∷ cs) =
    finish os
    (with_item o (record {
      at = innermost.start;
      tree = node innermost.func innermost.start c.stop
          (bound (innermost.items ++ items_of F));
    })) c.behind cs

-- the outermost open call
abbrev pub bottom : List Open → Open → Open
bottom [] innermost = innermost
bottom (o ∷ os) innermost = bottom os o

-- how many calls are open or lie in an open one
abbrev pub number : List Open → Open → ℕ
number [] innermost = length innermost.items
number (o ∷ os) innermost = length innermost.items + 1 + number os o

-- what lies in open calls fits there, and isn't too high
abbrev pub Held : List Open → ℕ → Type 0
Held [] now = Unit {0}
Held (o ∷ os) now = FitBetween o.start now o.items × Low (8 * length os) 2040 o.items × Held os o.start

pub record Passing (s : TrackStream) (around : List Open) (innermost : Open) (rest : List Event) : Type 0
  where
    pub now : ℕ
    pub fine : Fine (length around) now s.end rest
    pub held : Held (innermost ∷ around) now
    pub depth : length around ≤ 256
    pub finished : finish around innermost (parse rest).now (parse rest).later ≡ items_of (parse s.events).now
    pub root_func : (bottom around innermost).func ≡ 0
    pub root_start : (bottom around innermost).start ≡ s.start
    pub few : number around innermost + enters rest ≤ 4194304

pub Passing-start : (s : TrackStream) (innermost : Open) → IsLegal s
    → innermost ≡ record { func = 0; start = s.start; items = [] }
    → Passing s [] innermost s.events
Passing-start s innermost legal e =
    let fine = legal_fine s legal in
    let p = parse-is s.events 0 s.start s.end fine in
    let here : Passing s [] (record { func = 0; start = s.start; items = [] }) s.events = record {
      now = s.start;
      fine = fine;
      held = (omega arith, Low-nil (8 * 0) 2040, tt);
      depth = omega arith;
      finished = refl;
      root_func = refl;
      root_start = refl;
      few = omega (arith, enters-filter s.events, legal.calls);
    } in subst (λ (o : Open). Passing s [] o s.events) (sym e) here

finish_call : (around : List Open) (innermost : Open) (f t u : ℕ) (A B : Forest) (cs : List Closer)
    → finish around innermost (call f t A u B) cs ≡ finish around
    (with_item innermost (record { at = t; tree = node f t u (bound (items_of A)) })) B cs
finish_call [] innermost f t u A B cs =
    sym (append_assoc innermost.items (record { at = t; tree = node f t u (bound (items_of A)) } ∷ [])
    (items_of B))
finish_call (o ∷ os) innermost f t u A B [] = refl
finish_call (o ∷ os) innermost f t u A B (c ∷ cs) =
    ap (λ (is : List Item). finish os (with_item o
    (record { at = innermost.start; tree = node innermost.func innermost.start c.stop (bound is) }))
    c.behind cs)
    (sym (append_assoc innermost.items (record { at = t; tree = node f t u (bound (items_of A)) } ∷ [])
    (items_of B)))

finish_enter : (around : List Open) (innermost : Open) (f t : ℕ) (F : Forest) (later : List Closer)
    → 0 < length later
    → finish (innermost ∷ around) (record { func = f; start = t; items = [] }) F later ≡ finish around
    innermost (entered f t F later).now (entered f t F later).later
finish_enter around innermost f t F [] some = absurd (omega arith)
finish_enter around innermost f t F (c ∷ cs) some =
    sym (finish_call around innermost f t c.stop F c.behind cs)

held_later : (innermost : Open) (around : List Open) (now now' : ℕ) → now ≤ now'
    → Held (innermost ∷ around) now → Held (innermost ∷ around) now'
held_later innermost around now now' h held =
    (FitBetween-upper innermost.start now now' innermost.items h held.0, held.1, held.2)

pub Passing-enter : (s : TrackStream) (around : List Open) (innermost : Open) (f t : ℕ) (rest : List Event)
    → Passing s around innermost (Enter f t ∷ rest)
    → Passing s (innermost ∷ around) (record { func = f; start = t; items = [] }) rest
Passing-enter s around innermost f t rest p =
    let deeper : length around + 1 ≡ suc (length around) = omega arith in
    let parsed = parse-is rest (length around + 1) t s.end p.fine.3 in
    record {
      now = t;
      fine = subst (λ (d : ℕ). Fine d t s.end rest) deeper p.fine.3;
      held = (
        omega arith,
        Low-nil (8 * suc (length around)) 2040,
        held_later innermost around p.now t
            p.fine.0 p.held,
      );
      depth = omega (arith, p.fine.1);
      finished = finish_enter around innermost f t (parse rest).now (parse rest).later
          (omega (arith, parsed.number)) ∙ p.finished;
      root_func = p.root_func;
      root_start = p.root_start;
      few = omega (arith, p.few);
    }

number_more : (around : List Open) (o : Open) (i : Item) → number around (with_item o i) ≡ number around o + 1
number_more [] o i = length-append o.items (i ∷ [])
number_more (x ∷ xs) o i = omega (arith, length-append o.items (i ∷ []))

bottom_func : (around : List Open) (o : Open) (i : Item) → (bottom around (with_item o i)).func ≡
    (bottom around o).func
bottom_func [] o i = refl
bottom_func (x ∷ xs) o i = refl

bottom_start : (around : List Open) (o : Open) (i : Item) → (bottom around (with_item o i)).start ≡
    (bottom around o).start
bottom_start [] o i = refl
bottom_start (x ∷ xs) o i = refl

fine_le : (d now end : ℕ) (es : List Event) → Fine d now end es → now ≤ end
fine_le d now end [] h = h.1
fine_le d now end (Enter f t ∷ es) h = omega (arith, h.0, fine_le (d + 1) t end es h.3)
fine_le d now end (Leave t ∷ es) h = omega (arith, h.0, fine_le (d - 1) t end es h.2)

number_le : (around : List Open) (innermost : Open) → length innermost.items ≤ number around innermost
number_le [] innermost = omega arith
number_le (o ∷ os) innermost = omega arith

-- the innermost open call can be closed at a later time
can_close : (s : TrackStream) (around : List Open) (innermost : Open) (rest : List Event) (stop : ℕ)
    → IsLegal s
    → (p : Passing s around innermost rest) → p.now ≤ stop → stop ≤ s.end → CanClose innermost stop
can_close s around innermost rest stop legal p h k = record {
  placed = FitBetween-upper innermost.start p.now stop innermost.items h p.held.0;
  in_time = omega (arith, legal.in_time, k);
  low = All-weaker (λ (i : Item). height i.tree + 8 * length around ≤ 2040)
      (λ (i : Item). height i.tree ≤ MAX_HEIGHT - MAX_KIDS) (λ i h. omega arith) innermost.items p.held.1;
  few = omega (arith, number_le around innermost, p.few);
}

pub Passing-close : (s : TrackStream) (around : List Open) (innermost : Open) (u : ℕ) (rest : List Event)
    → IsLegal s
    → Passing s around innermost (Leave u ∷ rest) → (0 < length around) × CanClose innermost u
Passing-close s around innermost u rest legal p = (
  p.fine.1,
  can_close s around innermost (Leave u ∷ rest) u legal p p.fine.0
      (fine_le (length around - 1) u s.end rest p.fine.2),
)

pub Passing-leave : (s : TrackStream) (outer : Open) (around : List Open) (innermost : Open) (u : ℕ)
    (rest : List Event)
    → Passing s (outer ∷ around) innermost (Leave u ∷ rest)
    → Passing s around (with_item outer (closed_item innermost u)) rest
Passing-leave s outer around innermost u rest p =
    let shallower : suc (length around) - 1 ≡ length around = omega arith in
    let begun = FitBetween-le innermost.start p.now innermost.items p.held.0 in
    let ends : end_of (closed_item innermost u) ≡ u = omega (arith, begun, p.fine.0) in
    let items = FitBetween-push outer.start innermost.start u outer.items (closed_item innermost u) p.held.2.0
    (omega arith) (omega (arith, ends)) in
    let few : length innermost.items ≤ eights 7 = omega (arith, number_le (outer ∷ around) innermost, p.few)
    in
    let bounded = Low-bound 7 (8 * length around + 1) 2040 innermost.items few
    (Low-weaker (8 * suc (length around)) (8 * length around + 1 + 7) 2040 2040 innermost.items
    (λ h q. omega arith) p.held.1) in
    let low : height (closed_item innermost u).tree + 8 * length around ≤ 2040 =
    height_above-low innermost.start (8 * length around) 2040 (bound innermost.items) (omega (arith, p.depth))
    bounded in
    record {
      now = u;
      fine = subst (λ (d : ℕ). Fine d u s.end rest) shallower p.fine.2;
      held = (
        items,
        All-push (λ (i : Item). height i.tree + 8 * length around ≤ 2040) outer.items
            (closed_item innermost u) p.held.2.1 low,
        p.held.2.2,
      );
      depth = omega (arith, p.depth);
      finished = ap (λ (is : List Item). finish around
          (with_item outer (record {
            at = innermost.start;
            tree = node innermost.func innermost.start u
                (bound is);
          })) (parse rest).now (parse rest).later)
          (sym (append-nil innermost.items)) ∙ p.finished;
      root_func = bottom_func around outer (closed_item innermost u) ∙ p.root_func;
      root_start = bottom_start around outer (closed_item innermost u) ∙ p.root_start;
      few = omega (arith, number_more around outer (closed_item innermost u), p.few);
    }

-- at the end the stream itself is open
pub Passing-end : (s : TrackStream) (around : List Open) (innermost : Open) → IsLegal s
    → Passing s around innermost []
    → CanClose innermost s.end × ((closed_item innermost s.end).tree ≡ tree s)
Passing-end s (o ∷ os) innermost legal p = absurd (omega (arith, p.fine.0))
Passing-end s [] innermost legal p =
    let calls = legal_calls s legal in
    let items : innermost.items ≡ items_of (parse s.events).now = sym (append-nil innermost.items) ∙
    p.finished in (
      can_close s [] innermost [] s.end legal p p.fine.1 (omega arith),
      ap (λ (f : ℕ). node f innermost.start s.end (bound innermost.items)) p.root_func
          ∙ ap (λ (n : ℕ). node 0 n s.end (bound innermost.items)) p.root_start
          ∙ ap (λ (is : List Item). node 0 s.start s.end (bound is)) items ∙ sym
          (tree-calls s (parse s.events).now calls.events),
    )

-- what a step asks for and does, where the calls round the innermost one stand in the order in which they
-- were entered
pub Passing-may_come : (s : TrackStream) (around : List Open) (innermost : Open) (e : Event)
    (rest : List Event) → IsLegal s
    → Passing s (reverse around) innermost (e ∷ rest) → MayCome e around innermost
Passing-may_come s around innermost (Enter f t) rest legal p = tt
Passing-may_come s around innermost (Leave u) rest legal p =
    let can = Passing-close s (reverse around) innermost u rest legal p
    in (omega (arith, can.0, length-reverse around), can.1)

pub Passing-step : (s : TrackStream) (around around' : List Open) (innermost now : Open) (e : Event)
    (rest : List Event)
    → Passing s (reverse around) innermost (e ∷ rest) → PassesEvent around innermost e around' now
    → Passing s (reverse around') now rest
Passing-step s around around' innermost now (Enter f t) rest p steps =
    let turned : reverse around' ≡ innermost ∷ reverse around = ap reverse steps.0 ∙ reverse-append around
    (innermost ∷ []) in
    subst (λ (os : List Open). Passing s os now rest) (sym turned)
    (subst (λ (o : Open). Passing s (innermost ∷ reverse around) o rest) (sym steps.1)
    (Passing-enter s (reverse around) innermost f t rest p))
Passing-step s around around' innermost now (Leave u) rest p steps =
    let turned : reverse around ≡ steps.0 ∷ reverse around' = ap reverse steps.1 ∙ reverse-append around'
    (steps.0 ∷ []) in
    subst (λ (o : Open). Passing s (reverse around') o rest) (sym steps.2)
    (Passing-leave s steps.0 (reverse around') innermost u rest
    (subst (λ (os : List Open). Passing s os innermost (Leave u ∷ rest)) turned p))
