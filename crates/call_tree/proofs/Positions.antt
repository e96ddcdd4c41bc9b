-- The positions of calls that lie in one another, among other events.
use Rattle.std.proofs.Common.{◌≡◌, ℕ, ◌+◌, ◌-◌, ◌<◌, ◌≤◌, zero, suc, List, [], ◌∷◌, ◌++◌, length, take, drop}
use Rattle.std.proofs.Common.{map, refl, sym, ap}
use Rattle.std.proofs.Common.{◌∙◌, arith, append_assoc, append-nil, length-append, Bool, true, false, not}
use Rattle.std.proofs.Common.{cond, All, eqb}
use Rattle.std.proofs.Common.{Option, Some, None, slice_get, option_map, filter, eq-eqb, get_or}
use Rattle.std.specs.Prelude.{◌&&◌, ◌||◌, nat_lt, slice_index, count_by}
use Rattle.std.specs.List.{filter_map, list_any, range_with_len, cons_option}
use Rattle.std.proofs.Math.Seq.{drop-append_seam}
use Rattle.std.proofs.lemmas.List.{take-append-le}
use Rattle.std.proofs.lemmas.List.Elements.{All-nil, All-cons, All-head, All-tail, All-append, All-weaker}
use Rattle.std.proofs.lemmas.List.Elements.{filter_map-append, filter-append}
use Rattle.std.proofs.lemmas.Bool.{le-ltb, lt-ltb}
use mathlib.Core.Bool.{and-false, or-true}
use Rattle.list_lemmas.proofs.Filters.{filter_All-every, filter_All-none}
use Rattle.list_lemmas.proofs.Numbers.{eqb_above}
use Rattle.list_lemmas.proofs.Ranges.{range_find, range_with_len-parts}
use Rattle.trace_base.specs.Stream.{is_enter, time_of}
use Rattle.trace_base.specs.declared.stream.Event.{Event}
use Rattle.trace_base.specs.declared.stream.Event.TheVariants.{Enter, Leave}
use Rattle.node_key.specs.Items.{node}
use Rattle.node_key.specs.declared.item.Item.{Item}
use Rattle.node_key.specs.Bound.{bound}
use Rattle.node_key.specs.Calls.{Call, is_balanced, events_between, leave_of, enters_at, call_at, lies_in}
use Rattle.node_key.specs.Calls.{calls_within}
use Rattle.node_key.specs.Calls.{outer_calls, inner_calls}
use Rattle.node_key.specs.Trees.{function_entered, time_at, call_item}
use Rattle.call_tree.proofs.Forest.{Forest, none, call, flat, items_of, enters, leaves, enters-is, leaves-is}
use Rattle.call_tree.proofs.Forest.{enters-append, leaves-append}
use Rattle.call_tree.proofs.Forest.{leaves-flat, front_of_flat}

-- the outermost calls, whose first event is at p
abbrev pub tops : ℕ → Forest → List Call
tops p none = []
tops p (call f t A u B) =
    record { enter = p; leave = p + 1 + length (flat A) } ∷ tops (p + 1 + length (flat A) + 1) B

-- all calls, in the order of their Enters
abbrev pub all_calls : ℕ → Forest → List Call
all_calls p none = []
all_calls p (call f t A u B) =
    record { enter = p; leave = p + 1 + length (flat A) } ∷ all_calls (p + 1) A
    ++ all_calls (p + 1 + length (flat A) + 1) B

-- how many Enters and Leaves tell
balanced_is : (es : List Event) → is_balanced es ≡ eqb (enters es) (leaves es)
balanced_is es = ap (λ (n : ℕ). eqb n (count_by (λ e. not (is_enter e)) es)) (enters-is es) ∙ ap
    (λ (n : ℕ). eqb (enters es) n) (leaves-is es)

-- a call that isn't left yet
open_front : (f t u i : ℕ) (A : Forest) (rest : List Event) → i ≤ length (flat A)
    → is_balanced (take (suc i) (Enter f t ∷ flat A ++ Leave u ∷ rest)) ≡ false
open_front f t u i A rest h =
    let front : take i (flat A ++ Leave u ∷ rest) ≡ take i (flat A) = take-append-le i (flat A)
    (Leave u ∷ rest) h in
    balanced_is (Enter f t ∷ take i (flat A ++ Leave u ∷ rest))
    ∙ ap (λ (l : List Event). eqb (enters l + 1) (leaves l)) front
    ∙ eqb_above (leaves (take i (flat A))) (enters (take i (flat A)) + 1) (omega (arith, front_of_flat A i))

-- a call with its Leave
closed_front : (f t u : ℕ) (A : Forest) (rest : List Event)
    → is_balanced (take (suc (length (flat A) + 1)) (Enter f t ∷ flat A ++ Leave u ∷ rest)) ≡ true
closed_front f t u A rest =
    let front : take (length (flat A) + 1) (flat A ++ Leave u ∷ rest) ≡ flat A ++ Leave u
    ∷ [] = one_more (flat A) (Leave u) rest in
    balanced_is (Enter f t ∷ take (length (flat A) + 1) (flat A ++ Leave u ∷ rest))
    ∙ ap (λ (l : List Event). eqb (enters l + 1) (leaves l)) front
    ∙ eq-eqb _ _ (omega (
      arith,
      enters-append (flat A) (Leave u ∷ []),
      leaves-append (flat A) (Leave u ∷ []),
      leaves-flat A,
    ))
  where
    one_more : (xs : List Event) (e : Event) (rest : List Event) → take (length xs + 1) (xs ++ e ∷ rest) ≡ xs
        ++ e ∷ []
    one_more [] e rest = refl
    one_more (x ∷ xs) e rest =
        let number : suc (length xs) + 1 ≡ suc (length xs + 1) = omega arith in
        ap (λ (n : ℕ). take n (x ∷ (xs ++ e ∷ rest))) number ∙ ap (λ (l : List Event). x ∷ l)
        (one_more xs e rest)

-- the events from p to j, where those from p on are known
between : (es whole : List Event) (p j : ℕ) → drop p es ≡ whole → p ≤ j
    → events_between p j es ≡ take (suc (j - p)) whole
between es whole p j d h =
    let number : j + 1 - p ≡ suc (j - p) = omega arith in
    ap (λ (n : ℕ). take n (drop p es)) number ∙ ap (λ (l : List Event). take (suc (j - p)) l) d

-- where a call ends
leave_of-call : (es pre rest : List Event) (f t u p : ℕ) (A : Forest) → es ≡ pre
    ++ (Enter f t ∷ (flat A ++ Leave u ∷ rest))
    → p ≡ length pre → leave_of es p ≡ Some (p + 1 + length (flat A))
leave_of-call es pre rest f t u p A e n =
    let whole : List Event = Enter f t ∷ (flat A ++ Leave u ∷ rest) in
    let behind : drop p es ≡ whole =
    ap (λ (k : ℕ). drop k es) n ∙ ap (λ (l : List Event). drop (length pre) l) e ∙ drop-append_seam pre whole
    in
    let number : length es ≡ p + 1 + length (flat A) + 1 + length rest =
    omega (arith, ap length e, length-append pre whole, length-append (flat A) (Leave u ∷ rest)) in
    let last : suc (p + 1 + length (flat A) - p) ≡ suc (length (flat A) + 1) = omega arith in
    range_find (λ j. is_balanced (events_between p j es)) (length es - (p + 1)) (p + 1)
    (p + 1 + length (flat A)) (omega arith)
    (omega (arith, number))
    (ap is_balanced (between es whole p (p + 1 + length (flat A)) behind (omega arith) ∙ ap
    (λ (k : ℕ). take k whole) last)
    ∙ closed_front f t u A rest)
    (λ j low high. ap is_balanced (between es whole p j behind (omega arith)) ∙ open_front f t u (j - p) A
    rest (omega arith))

slice_seam : (pre : List Event) (x : Event) (rest : List Event) → slice_get (pre ++ x ∷ rest) (length pre) ≡
    Some x
slice_seam [] x rest = refl
slice_seam (y ∷ pre) x rest = slice_seam pre x rest

slice_here : (es pre rest : List Event) (x : Event) (p : ℕ) → es ≡ pre ++ x ∷ rest → p ≡ length pre
    → slice_get es p ≡ Some x
slice_here es pre rest x p e n =
    ap (λ (k : ℕ). slice_get es k) n ∙ ap (λ (l : List Event). slice_get l (length pre)) e ∙ slice_seam pre x
    rest

call_at-enter : (es pre rest : List Event) (f t u p : ℕ) (A : Forest) → es ≡ pre
    ++ (Enter f t ∷ (flat A ++ Leave u ∷ rest))
    → p ≡ length pre → call_at es p ≡ Some (record { enter = p; leave = p + 1 + length (flat A) })
call_at-enter es pre rest f t u p A e n =
    let found : (j : ℕ) → Call = λ j. record { enter = p; leave = j } in
    ap (λ (o : Option Event). cond (enters_at o) (option_map found (leave_of es p)) None)
    (slice_here es pre (flat A ++ Leave u ∷ rest) (Enter f t) p e n)
    ∙ ap (λ (o : Option ℕ). option_map found o) (leave_of-call es pre rest f t u p A e n)

call_at-leave : (es pre rest : List Event) (u p : ℕ) → es ≡ pre ++ Leave u ∷ rest → p ≡ length pre
    → call_at es p ≡ None
call_at-leave es pre rest u p e n =
    let found : (j : ℕ) → Call = λ j. record { enter = p; leave = j } in
    ap (λ (o : Option Event). cond (enters_at o) (option_map found (leave_of es p)) None)
    (slice_here es pre rest (Leave u) p e n)

-- the calls that events of the forest enter
calls_of_flat : (F : Forest) (es pre post : List Event) (p : ℕ) → es ≡ pre ++ (flat F ++ post)
    → p ≡ length pre
    → filter_map (call_at es) (range_with_len p (length (flat F))) ≡ all_calls p F
calls_of_flat none es pre post p e n = refl
calls_of_flat (call f t A u B) es pre post p e n =
    let q : ℕ = p + 1 + length (flat A) in
    let c : Call = record { enter = p; leave = q } in
    let h = call_at es in
    let behind : es ≡ pre ++ (Enter f t ∷ (flat A ++ Leave u ∷ (flat B ++ post))) =
    e ∙ ap (λ (l : List Event). pre ++ Enter f t ∷ l) (append_assoc (flat A) (Leave u ∷ flat B) post) in
    let at_a : es ≡ (pre ++ Enter f t ∷ []) ++ (flat A ++ Leave u ∷ (flat B ++ post)) =
    behind ∙ sym (append_assoc pre (Enter f t ∷ []) (flat A ++ Leave u ∷ (flat B ++ post))) in
    let at_leave : es ≡ (pre ++ Enter f t ∷ flat A) ++ Leave u ∷ (flat B ++ post) =
    behind ∙ sym (append_assoc pre (Enter f t ∷ flat A) (Leave u ∷ (flat B ++ post))) in
    let at_b : es ≡ ((pre ++ Enter f t ∷ flat A) ++ Leave u ∷ []) ++ (flat B ++ post) =
    at_leave ∙ sym (append_assoc (pre ++ Enter f t ∷ flat A) (Leave u ∷ []) (flat B ++ post)) in
    let in_a = calls_of_flat A es (pre ++ Enter f t ∷ []) (Leave u ∷ (flat B ++ post)) (p + 1) at_a
    (omega (arith, n, length-append pre (Enter f t ∷ []))) in
    let in_b = calls_of_flat B es ((pre ++ Enter f t ∷ flat A) ++ Leave u ∷ []) post (q + 1) at_b
    (omega (
      arith,
      n,
      length-append (pre ++ Enter f t ∷ flat A) (Leave u ∷ []),
      length-append pre
          (Enter f t ∷ flat A),
    )) in
    let left = call_at-leave es (pre ++ Enter f t ∷ flat A) (flat B ++ post) u q at_leave
    (omega (arith, n, length-append pre (Enter f t ∷ flat A))) in
    let ranges = range_with_len-parts (length (flat A)) (suc (length (flat B))) (p + 1)
    (length (flat A ++ Leave u ∷ flat B))
    (length-append (flat A) (Leave u ∷ flat B)) in
    ap (λ (o : Option Call). cons_option o
    (filter_map h (range_with_len (p + 1) (length (flat A ++ Leave u ∷ flat B)))))
    (call_at-enter es pre (flat B ++ post) f t u p A behind n)
    ∙ ap (λ (l : List ℕ). c ∷ filter_map h l) ranges
    ∙ ap (λ (l : List Call). c ∷ l) (filter_map-append h (range_with_len (p + 1) (length (flat A)))
    (range_with_len q (suc (length (flat B)))))
    ∙ ap (λ (o : Option Call). c ∷ (filter_map h (range_with_len (p + 1) (length (flat A)))
    ++ cons_option o (filter_map h (range_with_len (q + 1) (length (flat B)))))) left
    ∙ ap (λ (l : List Call). c ∷ (l ++ filter_map h (range_with_len (q + 1) (length (flat B))))) in_a
    ∙ ap (λ (l : List Call). c ∷ (all_calls (p + 1) A ++ l)) in_b

-- where the calls lie
abbrev LeftBefore : ℕ → List Call → Type 0
LeftBefore n L = All (λ c. c.leave < n) L

abbrev EnteredFrom : ℕ → List Call → Type 0
EnteredFrom n L = All (λ c. n ≤ c.enter) L

LeftBefore-weaker : (n m : ℕ) (L : List Call) → n ≤ m → LeftBefore n L → LeftBefore m L
LeftBefore-weaker n m L h = All-weaker (λ (c : Call). c.leave < n) (λ (c : Call). c.leave < m)
    (λ c k. omega arith) L

EnteredFrom-weaker : (n m : ℕ) (L : List Call) → m ≤ n → EnteredFrom n L → EnteredFrom m L
EnteredFrom-weaker n m L h = All-weaker (λ (c : Call). n ≤ c.enter) (λ (c : Call). m ≤ c.enter)
    (λ c k. omega arith) L

left_before : (F : Forest) (p : ℕ) → LeftBefore (p + length (flat F)) (all_calls p F)
left_before none p = All-nil (λ (c : Call). c.leave < p + 0)
left_before (call f t A u B) p =
    let q : ℕ = p + 1 + length (flat A) in
    let end : ℕ = p + length (flat (call f t A u B)) in
    let number = length-append (flat A) (Leave u ∷ flat B) in
    All-cons (λ (c : Call). c.leave < end) (record { enter = p; leave = q }) (all_calls (p + 1) A
    ++ all_calls (q + 1) B) (omega (arith, number))
    (All-append (λ (c : Call). c.leave < end) (all_calls (p + 1) A) (all_calls (q + 1) B)
    (LeftBefore-weaker (p + 1 + length (flat A)) end (all_calls (p + 1) A) (omega (arith, number))
    (left_before A (p + 1)))
    (LeftBefore-weaker (q + 1 + length (flat B)) end (all_calls (q + 1) B) (omega (arith, number))
    (left_before B (q + 1))))

entered_from : (F : Forest) (p : ℕ) → EnteredFrom p (all_calls p F)
entered_from none p = All-nil (λ (c : Call). p ≤ c.enter)
entered_from (call f t A u B) p =
    let q : ℕ = p + 1 + length (flat A) in
    All-cons (λ (c : Call). p ≤ c.enter) (record { enter = p; leave = q }) (all_calls (p + 1) A
    ++ all_calls (q + 1) B) (omega arith)
    (All-append (λ (c : Call). p ≤ c.enter) (all_calls (p + 1) A) (all_calls (q + 1) B)
    (EnteredFrom-weaker (p + 1) p (all_calls (p + 1) A) (omega arith) (entered_from A (p + 1)))
    (EnteredFrom-weaker (q + 1) p (all_calls (q + 1) B) (omega arith) (entered_from B (q + 1))))

-- the calls of a forest among other events
within_flat : (F : Forest) (es pre post : List Event) (low high : ℕ) → es ≡ pre ++ (flat F ++ post)
    → low ≡ length pre
    → high ≡ low + length (flat F) → calls_within es low high ≡ all_calls low F
within_flat F es pre post low high e n m =
    let number : high - low ≡ length (flat F) = omega arith in
    ap (λ (k : ℕ). filter (λ (c : Call). nat_lt c.leave high)
    (filter_map (call_at es) (range_with_len low k))) number
    ∙ ap (λ (L : List Call). filter (λ (c : Call). nat_lt c.leave high) L)
    (calls_of_flat F es pre post low e n)
    ∙ filter_All-every (λ (c : Call). nat_lt c.leave high) (all_calls low F)
    (All-weaker (λ (c : Call). c.leave < low + length (flat F)) (λ (c : Call). nat_lt c.leave high ≡ true)
    (λ c h. lt-ltb c.leave high (omega arith)) (all_calls low F) (left_before F low))

any_none : (c : Call) (L : List Call) → All (λ d. lies_in c d ≡ false) L → list_any (lies_in c) L ≡ false
any_none c [] h = refl
any_none c (d ∷ L) h =
    ap (λ (b : Bool). b || list_any (lies_in c) L) (All-head (λ (d : Call). lies_in c d ≡ false) d L h)
    ∙ any_none c L (All-tail (λ (d : Call). lies_in c d ≡ false) d L h)

any_found : (c d : Call) (L M : List Call) → lies_in c d ≡ true → list_any (lies_in c) (L ++ d ∷ M) ≡ true
any_found c d [] M h = ap (λ (b : Bool). b || list_any (lies_in c) M) h
any_found c d (x ∷ L) M h = ap (λ (b : Bool). lies_in c x || b) (any_found c d L M h) ∙ or-true (lies_in c x)

-- a call lies in none that begins later, and in none that ended before
not_in_later : (c d : Call) → c.enter ≤ d.enter → lies_in c d ≡ false
not_in_later c d h = ap (λ (b : Bool). b && nat_lt c.leave d.leave) (le-ltb d.enter c.enter h)

not_in_earlier : (c d : Call) → d.leave ≤ c.leave → lies_in c d ≡ false
not_in_earlier c d h = ap (λ (b : Bool). nat_lt d.enter c.enter && b) (le-ltb c.leave d.leave h) ∙
    and-false (nat_lt d.enter c.enter)

in_the_call : (c d : Call) → d.enter < c.enter → c.leave < d.leave → lies_in c d ≡ true
in_the_call c d h k =
    ap (λ (b : Bool). b && nat_lt c.leave d.leave) (lt-ltb d.enter c.enter h) ∙ lt-ltb c.leave d.leave k

both_weaker : (low high : ℕ) (P : Call → Type 0) (L : List Call)
    → ((c : Call) → low ≤ c.enter → c.leave < high → P c)
    → EnteredFrom low L → LeftBefore high L → All P L
both_weaker low high P L f h k = λ i d l. f (get_or L i d) (h i d l) (k i d l)

-- the outermost calls are those that lie in no other
outer_of_flat : (F : Forest) (p : ℕ) (L before after : List Call) → L ≡ before ++ (all_calls p F ++ after)
    → LeftBefore p before
    → EnteredFrom (p + length (flat F)) after → filter (λ c. not (list_any (lies_in c) L)) (all_calls p F) ≡
    tops p F
outer_of_flat none p L before after e h k = refl
outer_of_flat (call f t A u B) p L before after e h k =
    let q : ℕ = p + 1 + length (flat A) in
    let c : Call = record { enter = p; leave = q } in
    let in_a = all_calls (p + 1) A in
    let in_b = all_calls (q + 1) B in
    let number = length-append (flat A) (Leave u ∷ flat B) in
    let outer : Call → Bool = λ d. not (list_any (lies_in d) L) in
    let none_round : All (λ d. lies_in c d ≡ false) (before ++ (c ∷ (in_a ++ in_b) ++ after)) =
    All-append (λ d. lies_in c d ≡ false) before (c ∷ (in_a ++ in_b) ++ after)
    (All-weaker (λ (d : Call). d.leave < p) (λ d. lies_in c d ≡ false)
    (λ d l. not_in_earlier c d (omega arith)) before h)
    (All-cons (λ d. lies_in c d ≡ false) c ((in_a ++ in_b) ++ after) (not_in_later c c (omega arith))
    (All-append (λ d. lies_in c d ≡ false) (in_a ++ in_b) after
    (All-append (λ d. lies_in c d ≡ false) in_a in_b
    (All-weaker (λ (d : Call). p + 1 ≤ d.enter) (λ d. lies_in c d ≡ false)
    (λ d l. not_in_later c d (omega arith)) in_a (entered_from A (p + 1)))
    (All-weaker (λ (d : Call). q + 1 ≤ d.enter) (λ d. lies_in c d ≡ false)
    (λ d l. not_in_later c d (omega arith)) in_b (entered_from B (q + 1))))
    (All-weaker (λ (d : Call). p + length (flat (call f t A u B)) ≤ d.enter) (λ d. lies_in c d ≡ false)
    (λ d l. not_in_later c d (omega arith)) after k))) in
    let kept : outer c ≡ true = ap not (ap (λ (l : List Call). list_any (lies_in c) l) e ∙ any_none c
    (before ++ (c ∷ (in_a ++ in_b) ++ after)) none_round) in
    let inside : All (λ (d : Call). outer d ≡ false) in_a =
    both_weaker (p + 1) q (λ (d : Call). outer d ≡ false) in_a
    (λ d low high. ap not (ap (λ (l : List Call). list_any (lies_in d) l) e
    ∙ any_found d c before ((in_a ++ in_b) ++ after) (in_the_call d c (omega arith) high)))
    (entered_from A (p + 1)) (left_before A (p + 1)) in
    let regrouped : L ≡ (before ++ c ∷ in_a) ++ (in_b ++ after) =
    e ∙ ap (λ (l : List Call). before ++ c ∷ l) (append_assoc in_a in_b after) ∙ sym
    (append_assoc before (c ∷ in_a) (in_b ++ after)) in
    let passed : LeftBefore (q + 1) (before ++ c ∷ in_a) =
    All-append (λ (d : Call). d.leave < q + 1) before (c ∷ in_a)
    (LeftBefore-weaker p (q + 1) before (omega arith) h)
    (All-cons (λ (d : Call). d.leave < q + 1) c in_a (omega arith)
    (LeftBefore-weaker (p + 1 + length (flat A)) (q + 1) in_a (omega arith) (left_before A (p + 1)))) in
    let coming : EnteredFrom (q + 1 + length (flat B)) after =
    EnteredFrom-weaker (p + length (flat (call f t A u B))) (q + 1 + length (flat B)) after
    (omega (arith, number)) k in
    ap (λ (b : Bool). cond b (c ∷ filter outer (in_a ++ in_b)) (filter outer (in_a ++ in_b))) kept
    ∙ ap (λ (l : List Call). c ∷ l) (filter-append outer in_a in_b ∙ ap (λ (l : List Call). l
    ++ filter outer in_b) (filter_All-none outer in_a inside)
    ∙ outer_of_flat B (q + 1) L (before ++ c ∷ in_a) after regrouped passed coming)

-- which calls lie in no other, where the events of a forest stand among others
pub outer_calls-flat : (F : Forest) (es pre post : List Event) (low high : ℕ) → es ≡ pre ++ (flat F ++ post)
    → low ≡ length pre
    → high ≡ low + length (flat F) → outer_calls es low high ≡ tops low F
unfolding outer_calls
outer_calls-flat F es pre post low high e n m =
    let all = within_flat F es pre post low high e n m in
    let whole : all_calls low F ≡ [] ++ (all_calls low F ++ []) = sym (append-nil (all_calls low F)) in
    ap (λ (L : List Call). filter (λ c. not (list_any (lies_in c) L)) L) all
    ∙ outer_of_flat F low (all_calls low F) [] [] whole (All-nil (λ (c : Call). c.leave < low))
    (All-nil (λ (c : Call). low + length (flat F) ≤ c.enter))

time_seam : (pre : List Event) (x : Event) (rest : List Event) → slice_index (map time_of (pre ++ x ∷ rest))
    (length pre) ≡ time_of x
time_seam [] x rest = refl
time_seam (y ∷ pre) x rest = time_seam pre x rest

time_here : (es pre rest : List Event) (x : Event) (p : ℕ) → es ≡ pre ++ x ∷ rest → p ≡ length pre
    → time_at es p ≡ time_of x
time_here es pre rest x p e n =
    ap (λ (k : ℕ). time_at es k) n ∙ ap (λ (l : List Event). time_at l (length pre)) e ∙ time_seam pre x rest

one_item : (f f' t t' u u' : ℕ) (is is' : List Item) → f ≡ f' → t ≡ t' → u ≡ u' → is ≡ is'
    → (let i : Item = record { at = t; tree = node f t u (bound is) } in i) ≡
    record { at = t'; tree = node f' t' u' (bound is') }
one_item f f' t t' u u' is is' e g h k =
    ap (λ (x : ℕ). let i : Item = record { at = t; tree = node x t u (bound is) } in i) e
    ∙ ap (λ (x : ℕ). let i : Item = record { at = x; tree = node f' x u (bound is) } in i) g
    ∙ ap (λ (x : ℕ). let i : Item = record { at = t'; tree = node f' t' x (bound is) } in i) h
    ∙ ap (λ (l : List Item). let i : Item = record { at = t'; tree = node f' t' u' (bound l) } in i) k

-- the calls of a forest as items, where its events stand among others
pub items-flat : (F : Forest) (n : ℕ) (es pre post : List Event) (p : ℕ) → es ≡ pre ++ (flat F ++ post)
    → p ≡ length pre
    → length (flat F) ≤ n → map (call_item n es) (tops p F) ≡ items_of F
items-flat none n es pre post p e k h = refl
items-flat (call f t A u B) zero es pre post p e k h = absurd (omega arith)
items-flat (call f t A u B) (suc n) es pre post p e k h =
    let q : ℕ = p + 1 + length (flat A) in
    let number = length-append (flat A) (Leave u ∷ flat B) in
    let behind : es ≡ pre ++ (Enter f t ∷ (flat A ++ Leave u ∷ (flat B ++ post))) =
    e ∙ ap (λ (l : List Event). pre ++ Enter f t ∷ l) (append_assoc (flat A) (Leave u ∷ flat B) post) in
    let at_a : es ≡ (pre ++ Enter f t ∷ []) ++ (flat A ++ Leave u ∷ (flat B ++ post)) =
    behind ∙ sym (append_assoc pre (Enter f t ∷ []) (flat A ++ Leave u ∷ (flat B ++ post))) in
    let at_leave : es ≡ (pre ++ Enter f t ∷ flat A) ++ Leave u ∷ (flat B ++ post) =
    behind ∙ sym (append_assoc pre (Enter f t ∷ flat A) (Leave u ∷ (flat B ++ post))) in
    let at_b : es ≡ ((pre ++ Enter f t ∷ flat A) ++ Leave u ∷ []) ++ (flat B ++ post) =
    at_leave ∙ sym (append_assoc (pre ++ Enter f t ∷ flat A) (Leave u ∷ []) (flat B ++ post)) in
    let place_a : p + 1 ≡ length (pre ++ Enter f t ∷ []) =
    omega (arith, k, length-append pre (Enter f t ∷ [])) in
    let place_leave : q ≡ length (pre ++ Enter f t ∷ flat A) =
    omega (arith, k, length-append pre (Enter f t ∷ flat A)) in
    let place_b : q + 1 ≡ length ((pre ++ Enter f t ∷ flat A) ++ Leave u ∷ []) =
    omega (arith, place_leave, length-append (pre ++ Enter f t ∷ flat A) (Leave u ∷ [])) in
    let inner : inner_calls es (record { enter = p; leave = q }) ≡ tops (p + 1) A =
    outer_calls-flat A es (pre ++ Enter f t ∷ []) (Leave u ∷ (flat B ++ post)) (p + 1) q at_a place_a refl in
    let items = ap (λ (L : List Call). map (call_item n es) L) inner
    ∙ items-flat A n es (pre ++ Enter f t ∷ []) (Leave u ∷ (flat B ++ post)) (p + 1) at_a place_a
    (omega (arith, number, h)) in
    let begins = time_here es pre (flat A ++ Leave u ∷ (flat B ++ post)) (Enter f t) p behind k in
    let ends = time_here es (pre ++ Enter f t ∷ flat A) (flat B ++ post) (Leave u) q at_leave place_leave in
    let func = ap function_entered (slice_here es pre (flat A ++ Leave u ∷ (flat B ++ post)) (Enter f t) p
    behind
    k) in
    let more = items-flat B (suc n) es ((pre ++ Enter f t ∷ flat A) ++ Leave u ∷ []) post (q + 1) at_b place_b
    (omega (arith, number, h)) in
    let head : call_item (suc n) es (record { enter = p; leave = q }) ≡
    record { at = t; tree = node f t u (bound (items_of A)) } =
    one_item (function_entered (slice_get es p)) f (time_at es p) t (time_at es q) u
    (map (call_item n es) (inner_calls es (record { enter = p; leave = q }))) (items_of A) func begins
    ends items in
    ap (λ (i : Item). i ∷ map (call_item (suc n) es) (tops (q + 1) B)) head
    ∙ ap (λ (l : List Item). let i : Item = record { at = t; tree = node f t u (bound (items_of A)) } in i
    ∷ l) more
