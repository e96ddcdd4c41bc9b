-- Tokens stand within their line.
use Rattle.std.proofs.Common.{ℕ, ◌+◌, ◌≤◌, ◌==◌, List, [], ◌∷◌, ◌++◌, length, drop, Bool, true, false, cond}
use Rattle.std.proofs.Common.{Option, Some, None, Result, Ok, Err, IfOk, subst, arith, length-drop}
use Rattle.std.specs.List.{AllByRecursion}
use Rattle.std.specs.Option.{option_to_list}
use Rattle.std.proofs.lemmas.List.Elements.{All-from_recursion}
use Rattle.paje_lex.specs.declared.token.Token.{Token}
use Rattle.paje_lex.specs.declared.lex_fault.LexFault.{LexFault}
use Rattle.paje_lex.specs.declared.state.State.{State}
use Rattle.paje_lex.specs.declared.state.State.TheVariants.{Between, Plain, Quoted}
use Rattle.paje_lex.specs.LineKinds.{is_blank}
use Rattle.paje_lex.specs.declared.unread.Unread.{Unread}
use Rattle.paje_lex.specs.Unread.{UnlessMemory}
use Rattle.paje_lex.specs.LineGrammar.{token, StandIn}
use Rattle.paje_lex.specs.LineReading.{starting, step, scan, joined, IsBefore}

-- the tokens end by a place
abbrev EndBy : ℕ → List Token → Type 0
EndBy end tokens = AllByRecursion (λ t. (t.from ≤ t.to) × (t.to ≤ end)) tokens

end_later : (a b : ℕ) (tokens : List Token) → a ≤ b → EndBy a tokens → EndBy b tokens
end_later a b [] le h = tt
end_later a b (t ∷ ts) le h = ((h.0.0, omega (arith, h.0.1)), end_later a b ts le h.1)

append_ends : (end : ℕ) (a b : List Token) → EndBy end a → EndBy end b → EndBy end (a ++ b)
append_ends end [] b x y = y
append_ends end (t ∷ a) b x y = (x.0, append_ends end a b x.1 y)

joined_ends : (end : ℕ) (tokens : List Token) (r : Result (List Token) LexFault) → EndBy end tokens
    → IfOk r (EndBy end) → IfOk (joined tokens r) (EndBy end)
joined_ends end tokens (Ok more) x y = append_ends end tokens more x y
joined_ends end tokens (Err e) x y = tt

starting_before : (b at : ℕ) → IsBefore (starting b at) (at + 1)
starting_before b at = by_blank (is_blank b) (b == 34)
  where
    by_blank : (x y : Bool) → IsBefore (cond x Between (cond y (Quoted at) (Plain at))) (at + 1)
    by_blank true y = tt
    by_blank false true = omega arith
    by_blank false false = omega arith

-- what a step ends stands before its byte, and what it leaves open began by it
stepped : (state : State) (b at : ℕ) → IsBefore state at → EndBy at (option_to_list (step state b at).1)
    × IsBefore (step state b at).0 (at + 1)
stepped Between b at before = (tt, starting_before b at)
stepped (Plain from) b at before = by_blank (is_blank b)
  where
    by_blank : (x : Bool)
        → EndBy at (option_to_list (cond {A = State × Option Token} x (Between, Some (token from at))
        (Plain from, None)).1) × IsBefore (cond {A = State × Option Token} x (Between, Some (token from at))
        (Plain from, None)).0 (at + 1)
    by_blank true = (((omega arith, omega arith), tt), tt)
    by_blank false = (tt, omega arith)
stepped (Quoted quote) b at before = by_quote (b == 34)
  where
    by_quote : (x : Bool)
        → EndBy at (option_to_list (cond {A = State × Option Token} x (Between, Some (token (quote + 1) at))
        (Quoted quote, None)).1) × IsBefore
        (cond {A = State × Option Token} x (Between, Some (token (quote + 1) at)) (Quoted quote, None)).0
        (at + 1)
    by_quote true = (((omega arith, omega arith), tt), tt)
    by_quote false = (tt, omega arith)

later : (a b : ℕ) (r : Result (List Token) LexFault) → a ≤ b → IfOk r (EndBy a) → IfOk r (EndBy b)
later a b (Ok tokens) le h = end_later a b tokens le h
later a b (Err e) le h = tt

scan_ends : (state : State) (at : ℕ) (bytes : List ℕ) → IsBefore state at → IfOk (scan state at bytes)
    (EndBy (at + length bytes))
scan_ends Between at [] before = tt
scan_ends (Plain from) at [] before = ((omega arith, omega arith), tt)
scan_ends (Quoted quote) at [] before = tt
scan_ends state at (b ∷ bs) before =
    let next = stepped state b at before in
    joined_ends (at + length (b ∷ bs)) (option_to_list (step state b at).1)
    (scan (step state b at).0 (at + 1) bs)
    (end_later at (at + length (b ∷ bs)) (option_to_list (step state b at).1) (omega arith) next.0)
    (later (at + 1 + length bs) (at + length (b ∷ bs)) (scan (step state b at).0 (at + 1) bs) (omega arith)
    (scan_ends (step state b at).0 (at + 1) bs next.1))

placed : (end len : ℕ) (r : Result (List Token) (Unread LexFault)) (wanted : Result (List Token) LexFault)
    → end ≤ len → IfOk wanted (EndBy end)
    → UnlessMemory r wanted → IfOk r (StandIn len)
placed end len (Ok tokens) wanted le h told =
    let P : Result (List Token) LexFault → Type 0 = λ x. IfOk x (EndBy end) in
    All-from_recursion (λ t. (t.from ≤ t.to) × (t.to ≤ len)) tokens
    (end_later end len tokens le (subst P told h))
placed end len (Err e) wanted le h told = tt

pub told_within : (r : Result (List Token) (Unread LexFault)) (start : ℕ) (line : List ℕ)
    → start ≤ length line → UnlessMemory r (scan Between start (drop start line)) → IfOk r (StandIn (length line))
told_within r start line le told =
    placed (start + length (drop start line)) (length line) r (scan Between start (drop start line))
    (simp length-drop (omega arith)) (scan_ends Between start (drop start line) tt) told
