-- The calls of a legal stream, in one another.
use Rattle.std.proofs.Common.{◌≡◌, ◌≢◌, ℕ, ◌+◌, ◌-◌, ◌<◌, ◌≤◌, suc, List, [], ◌∷◌, ◌++◌, length, take}
use Rattle.std.proofs.Common.{map, refl, sym, ap}
use Rattle.std.proofs.Common.{subst, ◌∙◌, arith, append_assoc, length-append, length-take, Some}
use Rattle.std.proofs.Common.{slice_get, filter, fold}
use Rattle.std.specs.List.Sorted.{IsNonDecreasing}
use Rattle.list_lemmas.proofs.Fronts.{nonempty}
use Rattle.trace_base.specs.Stream.{time_of, is_enter, stack_step, stack_after, IsLegal}
use Rattle.trace_base.specs.declared.stream.Event.{Event}
use Rattle.trace_base.specs.declared.stream.Event.TheVariants.{Enter, Leave}
use Rattle.trace_base.specs.declared.stream.TrackStream.{TrackStream}
use Rattle.call_tree.proofs.Forest.{Forest, none, call, flat, enters}

-- What is left of a legal stream where d calls are open and the last event came at `now`.
abbrev pub Fine : ℕ → ℕ → ℕ → List Event → Type 0
Fine d now end [] = (d ≡ 0) × (now ≤ end)
Fine d now end (Enter f t ∷ es) = (now ≤ t) × (d < 256) × (1 ≤ f) × Fine (d + 1) t end es
Fine d now end (Leave t ∷ es) = (now ≤ t) × (0 < d) × Fine (d - 1) t end es

-- The same, by the call stack.
pub record Going (stack : List ℕ) (now end : ℕ) (es : List Event) : Type 0 where
  pub closes : (i t : ℕ) → slice_get es i ≡ Some (Leave t) → fold stack_step stack (take i es) ≢ []
  pub closed : fold stack_step stack es ≡ []
  pub depth : (i : ℕ) → length (fold stack_step stack (take i es)) ≤ 256
  pub order : IsNonDecreasing (now ∷ map time_of es ++ end ∷ [])
  pub functions : (i f t : ℕ) → slice_get es i ≡ Some (Enter f t) → 1 ≤ f

going_on : (stack : List ℕ) (now end : ℕ) (e : Event) (es : List Event) → Going stack now end (e ∷ es)
    → Going (stack_step stack e) (time_of e) end es
going_on stack now end e es g = record {
  closes = λ i t h. g.closes (suc i) t h;
  closed = g.closed;
  depth = λ i. g.depth (suc i);
  order = λ i j d h k. g.order (suc i) (suc j) d (omega arith) (omega arith);
  functions = λ i f t h. g.functions (suc i) f t h;
}

in_order : (stack : List ℕ) (now end : ℕ) (e : Event) (es : List Event) → Going stack now end (e ∷ es)
    → now ≤ time_of e
in_order stack now end e es g = g.order 0 1 0 (omega arith) (omega arith)

pub fine : (es : List Event) (stack : List ℕ) (now end : ℕ) → Going stack now end es
    → Fine (length stack) now end es
fine [] stack now end g = (ap length g.closed, g.order 0 1 0 (omega arith) (omega arith))
fine (Enter f t ∷ es) stack now end g = (
  in_order stack now end (Enter f t) es g,
  omega (arith, g.depth 1, length-append stack (f ∷ [])),
  g.functions 0 f t refl,
  subst (λ (n : ℕ). Fine n t end es) (length-append stack (f ∷ []))
      (fine es (stack ++ f ∷ []) t end (going_on stack now end (Enter f t) es g)),
)
fine (Leave t ∷ es) stack now end g =
    let fewer : length (take (length stack - 1) stack) ≡ length stack - 1 =
    omega (arith, length-take (length stack - 1) stack) in (
      in_order stack now end (Leave t) es g,
      nonempty stack (g.closes 0 t refl),
      subst (λ (n : ℕ). Fine n t end es) fewer
          (fine es (take (length stack - 1) stack) t end (going_on stack now end (Leave t) es g)),
    )

pub legal_fine : (s : TrackStream) → IsLegal s → Fine 0 s.start s.end s.events
unfolding stack_after
legal_fine s legal =
    let going : Going [] s.start s.end s.events = record {
      closes = legal.closes_open;
      closed = legal.all_closed;
      depth = legal.depth;
      order = legal.in_order;
      functions = λ i f t h. (legal.functions i f t h).0;
    } in fine s.events [] s.start s.end going

-- The end of a call that was open, and the calls behind it.
pub record Closer : Type 0 where
  pub stop : ℕ
  pub behind : Forest

-- The calls up to the next end of a call that was open, and what follows.
pub record Parsed : Type 0 where
  pub now : Forest
  pub later : List Closer

abbrev pub entered : (func start : ℕ) (now : Forest) (later : List Closer) → Parsed
entered f t now [] = record { now = none; later = [] }
entered f t now (c ∷ cs) = record { now = call f t now c.stop c.behind; later = cs }

abbrev pub parse : List Event → Parsed
parse [] = record { now = none; later = [] }
parse (Enter f t ∷ es) = entered f t (parse es).now (parse es).later
parse (Leave u ∷ es) = record {
  now = none;
  later = record { stop = u; behind = (parse es).now }
      ∷ (parse es).later;
}

abbrev pub unparse : Forest → List Closer → List Event
unparse F [] = flat F
unparse F (c ∷ cs) = flat F ++ Leave c.stop ∷ unparse c.behind cs

-- the calls lie between two times, in order and in one another
abbrev pub Sound : ℕ → Forest → ℕ → Type 0
Sound low none high = low ≤ high
Sound low (call f t A u B) high = (1 ≤ f) × (low ≤ t) × Sound t A u × Sound u B high

abbrev pub SoundAll : ℕ → ℕ → Forest → List Closer → Type 0
SoundAll now end F [] = Sound now F end
SoundAll now end F (c ∷ cs) = Sound now F c.stop × SoundAll c.stop end c.behind cs

pub record IsParsed (d now end : ℕ) (es : List Event) (p : Parsed) : Type 0 where
  pub number : length p.later ≡ d
  pub events : unparse p.now p.later ≡ es
  pub sound : SoundAll now end p.now p.later

parsed_enter : (d now end f t : ℕ) (es : List Event) (F : Forest) (later : List Closer) → now ≤ t → 1 ≤ f
    → length later ≡ d + 1 → unparse F later ≡ es → SoundAll t end F later
    → IsParsed d now end (Enter f t ∷ es) (entered f t F later)
parsed_enter d now end f t es F [] h k n e s = absurd (omega arith)
parsed_enter d now end f t es F (c ∷ []) h k n e s = record {
  number = omega arith;
  events = ap (λ (l : List Event). Enter f t ∷ l) e;
  sound = (k, h, s.0, s.1);
}
parsed_enter d now end f t es F (c ∷ b ∷ cs) h k n e s = record {
  number = omega arith;
  events = ap (λ (l : List Event). Enter f t ∷ l) (append_assoc (flat F) (Leave c.stop ∷ flat c.behind)
      (Leave b.stop ∷ unparse b.behind cs) ∙ e);
  sound = ((k, h, s.0, s.1.0), s.1.1);
}

sound_leave : (now t end : ℕ) (F : Forest) (later : List Closer) → now ≤ t → SoundAll t end F later
    → SoundAll now end none (record { stop = t; behind = F } ∷ later)
sound_leave now t end F later h s = (h, s)

pub parse-is : (es : List Event) (d now end : ℕ) → Fine d now end es → IsParsed d now end es (parse es)
parse-is [] d now end h = record { number = sym h.0; events = refl; sound = h.1 }
parse-is (Enter f t ∷ es) d now end h =
    let p = parse-is es (d + 1) t end h.3 in
    parsed_enter d now end f t es (parse es).now (parse es).later h.0 h.2 p.number p.events p.sound
parse-is (Leave t ∷ es) d now end h =
    let p = parse-is es (d - 1) t end h.2 in
    record {
      number = omega (arith, p.number, h.1);
      events = ap (λ (l : List Event). Leave t ∷ l) p.events;
      sound = sound_leave now t end (parse es).now (parse es).later h.0 p.sound;
    }

-- a legal stream is the events of its calls
pub record Calls (s : TrackStream) (F : Forest) : Type 0 where
  pub events : s.events ≡ flat F
  pub sound : Sound s.start F s.end

no_closers : (F : Forest) (later : List Closer) (now end : ℕ) (es : List Event) → length later ≡ 0
    → unparse F later ≡ es
    → SoundAll now end F later → (es ≡ flat F) × Sound now F end
no_closers F [] now end es n e s = (sym e, s)
no_closers F (c ∷ cs) now end es n e s = absurd (omega arith)

pub legal_calls : (s : TrackStream) → IsLegal s → Calls s (parse s.events).now
legal_calls s legal =
    let p = parse-is s.events 0 s.start s.end (legal_fine s legal) in
    let parts = no_closers (parse s.events).now (parse s.events).later s.start s.end s.events p.number
    p.events p.sound in
    record { events = parts.0; sound = parts.1 }

-- how many calls a legal stream has
pub enters-filter : (es : List Event) → length (filter is_enter es) ≡ enters es
enters-filter [] = refl
enters-filter (Enter f t ∷ es) = omega (arith, enters-filter es)
enters-filter (Leave t ∷ es) = enters-filter es

pub Sound-le : (F : Forest) (low high : ℕ) → Sound low F high → low ≤ high
Sound-le none low high s = s
Sound-le (call f t A u B) low high s = omega (arith, s.1, Sound-le A t u s.2, Sound-le B u high s.3)
