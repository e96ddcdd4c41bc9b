-- A text whose lines are read one after another.
use Rattle.std.proofs.Common.{◌≡◌, ℕ, ◌+◌, ◌≤◌, ◌<◌, ◌⊎◌, inl, inr, List, [], ◌∷◌, ◌++◌, length, map}
use Rattle.std.proofs.Common.{Some, None, is_some, cond, Bool, true, false, refl, sym, ◌∙◌, ap, subst, arith}
use Rattle.std.proofs.Common.{Err}
use Rattle.std.specs.List.{enumerate_from, find}
use Rattle.std.specs.Option.{option_and_then, option_map, option_or}
use Rattle.std.proofs.lemmas.List.{append-nil, append_assoc, length-append}
use Rattle.std.proofs.lemmas.List.Folds.{find-append}
use Rattle.paje_defs.specs.Refusals.{first_refused, placed, placed_behind, when}
use Rattle.paje_defs.specs.Table.{definitions_of}
use Rattle.paje_defs.proofs.RefusedMore.{none_refused}
use Rattle.paje_reader.specs.declared.line_fault.LineFault.{LineFault}
use Rattle.paje_reader.specs.declared.read_fault.ReadFault.TheVariants as faults
use Rattle.paje_reader.specs.declared.read_fault.ReadRefusal.{ReadRefusal}
use Rattle.paje_reader.specs.declared.reader.Reader.{Reader}
use Rattle.paje_reader.specs.declared.why.Why.{Why}
use Rattle.paje_reader.specs.declared.why.Why.TheVariants as why
use Rattle.paje_reader.specs.LineReasons.{line_why}
use Rattle.paje_reader.specs.LineFaults.{fault_at}
use Rattle.paje_reader.specs.Reader.{HasRead, TakesLine}
use Rattle.paje_reader.specs.TextLines.{TextLine, bytes_of_lines, lines_in, text_line}
use Rattle.paje_reader.specs.TextSaid.{end_refusal, refusal_at, text_refusal}
use Rattle.paje_reader.proofs.LinesRead.{behind, facts}

-- the lines of a rest of the text, behind so many
abbrev pub lines_behind : ℕ → List ℕ → List TextLine
lines_behind number rest = map text_line (enumerate_from (number + 1) (bytes_of_lines rest))

-- so many lines of the text are read, and this is left of it
pub record IsReading (text rest : List ℕ) (number : ℕ) (r : Reader) : Type 0 where
  pub before : List TextLine
  pub read : HasRead before r
  pub left : before ++ lines_behind number rest ≡ lines_in text
  pub count : length before ≡ number
  pub room : number + length rest ≤ length text

pub starts : (text : List ℕ) (r : Reader) → HasRead [] r → IsReading text text 0 r
starts text r read = record {
  before = [];
  read = read;
  left = ap (λ n. map text_line (enumerate_from n (bytes_of_lines text))) (omega arith);
  count = refl;
  room = omega arith;
}

abbrev pub numbered_line_of : ℕ → List ℕ → TextLine
numbered_line_of number bytes = record { number = number; bytes = bytes }

-- one line more
next_lines : (number : ℕ) (rest line after : List ℕ) → bytes_of_lines rest ≡ line ∷ bytes_of_lines after
    → lines_behind number rest ≡ numbered_line_of (number + 1) line ∷ lines_behind (number + 1) after
next_lines number rest line after cut = ap (λ ls. map text_line (enumerate_from (number + 1) ls)) cut

pub goes_on : (text rest line after : List ℕ) (number : ℕ) (old new : Reader)
    (reading : IsReading text rest number old)
    → bytes_of_lines rest ≡ line ∷ bytes_of_lines after → length after < length rest
    → HasRead (reading.before ++ numbered_line_of (number + 1) line ∷ []) new
    → IsReading text after (number + 1) new
goes_on text rest line after number old new reading cut shorter read = record {
  before = reading.before ++ numbered_line_of (number + 1) line ∷ [];
  read = read;
  left = append_assoc reading.before (numbered_line_of (number + 1) line ∷ []) (lines_behind (number + 1)
      after)
      ∙ (ap (λ ls. reading.before ++ ls) (sym (next_lines number rest line after cut)) ∙ reading.left);
  count = length-append reading.before (numbered_line_of (number + 1) line ∷ [])
      ∙ ap (λ n. n + 1) reading.count;
  room = omega (arith, reading.room, shorter);
}

-- ---- a refused line

placed-append : (before lines more : List TextLine) → placed_behind before (lines ++ more)
    ≡ placed_behind before lines ++ placed_behind (before ++ lines) more
placed-append before [] more = ap (λ b. placed_behind b more) (sym (append-nil before))
placed-append before (l ∷ lines) more = ap (λ ps. behind before l ∷ ps)
    (placed-append (before ++ l ∷ []) lines more
    ∙ ap (λ b. placed_behind (before ++ l ∷ []) lines ++ placed_behind b more)
    (append_assoc before (l ∷ []) lines))

-- the first refused line is so, whatever stands behind it
first_behind : (before lines : List TextLine) (line : TextLine) (w : Why)
    → first_refused line_why before ≡ None → line_why (behind before line) ≡ Some w
    → first_refused line_why (before ++ line ∷ lines) ≡ Some (behind before line)
first_behind before lines line w none is =
    let later = placed_behind (before ++ line ∷ []) lines in
    ap (find (λ p. is_some (line_why p))) (placed-append [] before (line ∷ lines))
    ∙ (find-append (λ p. is_some (line_why p)) (placed before) (behind before line ∷ later)
    ∙ (ap (λ first. option_or first (find (λ p. is_some (line_why p)) (behind before line ∷ later))) none
    ∙ ap (λ why. cond (is_some why) (Some (behind before line)) (find (λ p. is_some (line_why p)) later)) is))

pub refuses : (text rest line after : List ℕ) (number : ℕ) (r : Reader) (w : Why)
    (reading : IsReading text rest number r) → bytes_of_lines rest ≡ line ∷ bytes_of_lines after
    → line_why (behind reading.before (numbered_line_of (number + 1) line)) ≡ Some w
    → text_refusal text ≡ Some (record { line = number + 1; why = w })
refuses text rest line after number r w reading cut is =
    let at = numbered_line_of (number + 1) line in
    let lines : lines_in text ≡ reading.before ++ at ∷ lines_behind (number + 1) after =
    sym reading.left ∙ ap (λ ls. reading.before ++ ls) (next_lines number rest line after cut) in
    ap (λ first. option_or (option_and_then refusal_at first) (end_refusal (lines_in text)))
    (ap (first_refused line_why) lines
    ∙ first_behind reading.before (lines_behind (number + 1) after) at w
    (none_refused line_why reading.before reading.read.unrefused) is)
    ∙ ap (λ why. option_or (option_map (λ why. record { line = number + 1; why = why }) why)
    (end_refusal (lines_in text))) is

-- a line that isn't read ends the reading
pub stops : (U : Type 0) (text rest line after : List ℕ) (number : ℕ) (old new : Reader) (fault : LineFault)
    (reading : IsReading text rest number old) → bytes_of_lines rest ≡ line ∷ bytes_of_lines after
    → TakesLine {U = U} (behind reading.before (numbered_line_of (number + 1) line)) new (Err fault)
    → (fault_at (number + 1) fault ≡ faults.Memory) ⊎ ((refusal : ReadRefusal)
    × (fault_at (number + 1) fault ≡ faults.Refused refusal) × (text_refusal text ≡ Some refusal))
stops U text rest line after number old new fault reading cut (inl out) = inl (ap (fault_at (number + 1)) out)
stops U text rest line after number old new fault reading cut (inr (w, told, is)) =
    inr (
      record { line = number + 1; why = w },
      ap (fault_at (number + 1)) told,
      refuses text rest line after number old w reading cut is,
    )

-- ---- the end of the text

-- all lines are read
pub all_read : (text rest : List ℕ) (number : ℕ) (r : Reader) → IsReading text rest number r → length rest ≡ 0
    → HasRead (lines_in text) r
all_read text [] number r reading none = subst (λ ls. HasRead ls r) (sym (append-nil reading.before)
    ∙ reading.left) reading.read
all_read text (b ∷ rest) number r reading none = absurd (omega (arith, none))

count_read : (text rest : List ℕ) (number : ℕ) (r : Reader) → IsReading text rest number r → length rest ≡ 0
    → length (lines_in text) ≡ number
count_read text [] number r reading none = ap length (sym reading.left ∙ append-nil reading.before)
    ∙ reading.count
count_read text (b ∷ rest) number r reading none = absurd (omega (arith, none))

ends : (text : List ℕ) (r : Reader) (b : Bool) → HasRead (lines_in text) r
    → is_some (definitions_of r.definitions).begun ≡ b → text_refusal text
    ≡ when b (record { line = length (lines_in text) + 1; why = why.Unended })
ends text r b read is =
    ap (λ first. option_or (option_and_then refusal_at first) (end_refusal (lines_in text)))
    (none_refused line_why (lines_in text) read.unrefused)
    ∙ ap (λ b. when b (record { line = length (lines_in text) + 1; why = why.Unended }))
    (sym (ap (λ d. is_some d.begun) (facts (lines_in text) r read)) ∙ is)

-- a definition is open
pub ends_inside : (text rest : List ℕ) (number : ℕ) (r : Reader) → IsReading text rest number r
    → length rest ≡ 0 → is_some (definitions_of r.definitions).begun ≡ true
    → text_refusal text ≡ Some (record { line = number + 1; why = why.Unended })
ends_inside text rest number r reading none is =
    ends text r true (all_read text rest number r reading none) is
    ∙ ap (λ n. Some (record { line = n + 1; why = why.Unended })) (count_read text rest number r reading none)

pub ends_whole : (text rest : List ℕ) (number : ℕ) (r : Reader) → IsReading text rest number r
    → length rest ≡ 0 → is_some (definitions_of r.definitions).begun ≡ false → text_refusal text ≡ None
ends_whole text rest number r reading none is = ends text r false (all_read text rest number r reading none)
    is
