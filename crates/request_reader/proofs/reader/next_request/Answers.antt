use Rattle.std.proofs.Common.{◌≡◌, ◌≢◌, List, [], Option, None, refl, ◌∙◌, sym, ap, ℕ}
use Rattle.std.specs.Prelude.{IsSome}
use Rattle.session_proto.specs.Request.{request_of, text_length}
use Rattle.request_reader.specs.Incoming.{Spells, left_to_read}
use Rattle.request_reader.specs.Requests.{Line, Unreadable, first_request}
use Rattle.request_reader.specs.declared.incoming.Incoming.TheVariants as incoming
use Rattle.request_reader.specs.Skipping.{HasNoNewline}
use Rattle.request_reader.specs.LineReading.{IsLongLine}
use Rattle.request_reader.proofs.Coming.{AsksText, IsLine, spells-long, takes-load, takes-dropped, takes-large}
use Rattle.request_reader.proofs.Coming.{takes-short, comes_as}
use Rattle.request_reader.proofs.Spelling.{first_request-cut, spells-line, spells-unreadable}
use Rattle.request_reader.proofs.Taking.{takes-so}
use Rattle.request_reader.proofs.Unasked.{line_unasked, text_unasked}
use Rattle.request_reader.proofs.reader.next_request.Goals as goal
use Rattle.request_reader.proofs.reader.next_request.Given.{Over}
use Rattle.request_reader.proofs.reader.next_request.Goals.{After-read_line, After-parse_request}
use Rattle.request_reader.proofs.reader.next_request.Goals.{After-read_text}

-- what was left to read before the line, behind it, and behind the text
abbrev before : (g : Over) → After-read_line g → Option (List ℕ)
before g c = left_to_read c.args.buf.now.pending (g.I.Source.left c.args.input.now)

abbrev behind : (g : Over) → After-read_line g → Option (List ℕ)
behind g c = left_to_read c.read_line.new.pending (g.I.Source.left c.read_line.new.input)

abbrev last : (g : Over) → After-read_text g → Option (List ℕ)
last g c = left_to_read c.read_text.new.pending (g.I.Source.left c.read_text.new.input)

-- the source isn't asked for a line that waits
no_line_asked : (g : Over) (c : After-read_line g) → IsSome (first_request c.args.buf.now.pending)
    → c.read_line.new.input ≡ c.args.input.now
no_line_asked g c =
    line_unasked c.args.buf.now.pending c.read_line.new.pending c.read_line.new.line c.args.input.now
    c.read_line.new.input c.read_line.result c.read_line.ensures.unasked

-- the request that was parsed is that of the line
parsed : (g : Over) (c : After-parse_request g)
    → request_of c.read_line.new.line ≡ c.parse_request.result
parsed g c = ap request_of (sym c.as_slice.ensures) ∙ sym c.parse_request.ensures.request

-- the line asks for a text
asked : (g : Over) (c : After-read_text g) → AsksText (left_to_read c.args.buf.now.pending
    (g.I.Source.left c.args.input.now)) (left_to_read c.read_line.new.pending
    (g.I.Source.left c.read_line.new.input)) c.read_line.new.line c.in-Some.request c.in-Some-text_len.len
asked g c = record {
  line_ends = c.in-Whole.ensures.reads.1;
  taken = c.in-Whole.ensures.reads.0;
  is = ap request_of (sym c.as_slice.ensures) ∙ sym c.parse_request.ensures.request ∙ c.in-Some.is;
  follows = sym c.text_len.ensures ∙ c.in-Some-text_len.is;
}

-- nor is it asked for a text that waits
no_text_asked : (g : Over) (c : After-read_text g) → IsSome (first_request c.args.buf.now.pending)
    → c.read_text.new.input ≡ c.args.input.now
no_text_asked g c =
    text_unasked c.args.buf.now.pending c.read_line.new.pending c.read_line.new.line c.args.input.now
    c.read_line.new.input c.read_text.new.input c.in-Some.request c.in-Some-text_len.len
    c.in-Whole.ensures.unasked (asked g c).is (asked g c).follows c.read_text.ensures.unasked

pub returns-in-Long-clause-comes : goal.returns-in-Long-clause-comes
returns-in-Long-clause-comes g c =
    let t = (goal.at.returns-in-Long-clause-comes g c).After-read_line in
    comes_as incoming.Unreadable c.args.buf.now.text.items Unreadable (before g t) (behind g t) refl
    (takes-so IsLongLine (λ taken. Spells taken Unreadable) (before g t) (behind g t) c.in-Long.ensures.reads
    spells-long)

pub returns-in-Cut-clause-comes : goal.returns-in-Cut-clause-comes
returns-in-Cut-clause-comes g c = let t = (goal.at.returns-in-Cut-clause-comes g c).After-read_line in (
  takes-so (λ t. (t ≢ []) × HasNoNewline t) (λ t. (t ≢ []) × (first_request t ≡ None)) (before g t)
      (behind g t) c.in-Cut.ensures.reads.0 (λ s h. (h.0, first_request-cut s h.1)),
  c.in-Cut.ensures.reads.1,
)

pub returns-in-Failed-clause-comes : goal.returns-in-Failed-clause-comes
returns-in-Failed-clause-comes g c =
    let t = (goal.at.returns-in-Failed-clause-comes g c).After-read_line in
    takes-so HasNoNewline (λ t. first_request t ≡ None) (before g t) (behind g t) c.in-Failed.ensures.reads
    first_request-cut

pub returns-in-Long-clause-unasked : goal.returns-in-Long-clause-unasked
returns-in-Long-clause-unasked g c =
    no_line_asked g (goal.at.returns-in-Long-clause-unasked g c).After-read_line

pub returns-in-Nothing-clause-unasked : goal.returns-in-Nothing-clause-unasked
returns-in-Nothing-clause-unasked g c =
    no_line_asked g (goal.at.returns-in-Nothing-clause-unasked g c).After-read_line

pub returns-in-Cut-clause-unasked : goal.returns-in-Cut-clause-unasked
returns-in-Cut-clause-unasked g c =
    no_line_asked g (goal.at.returns-in-Cut-clause-unasked g c).After-read_line

pub returns-in-Failed-clause-unasked : goal.returns-in-Failed-clause-unasked
returns-in-Failed-clause-unasked g c =
    no_line_asked g (goal.at.returns-in-Failed-clause-unasked g c).After-read_line

pub returns-in_default-clause-unasked : goal.returns-in_default-clause-unasked
returns-in_default-clause-unasked g c =
    no_line_asked g (goal.at.returns-in_default-clause-unasked g c).After-read_line

pub returns-in_default-text_len-clause-unasked : goal.returns-in_default-text_len-clause-unasked
returns-in_default-text_len-clause-unasked g c =
    no_line_asked g (goal.at.returns-in_default-text_len-clause-unasked g c).After-read_line

pub returns-in_default-clause-comes : goal.returns-in_default-clause-comes
returns-in_default-clause-comes g c =
    let at = goal.at.returns-in_default-clause-comes g c in
    let t = at.After-read_line in
    let is = parsed g at.After-parse_request ∙ c.in_default.is in
    comes_as incoming.Unreadable c.args.buf.now.text.items Unreadable (before g t) (behind g t) refl
    (takes-so (IsLine c.read_line.new.line) (λ t. Spells t Unreadable) (before g t) (behind g t)
    c.in-Whole.ensures.reads.0 (λ t eq. spells-unreadable c.read_line.new.line t c.in-Whole.ensures.reads.1 is
    eq))

pub returns-in_default-text_len-clause-comes : goal.returns-in_default-text_len-clause-comes
returns-in_default-text_len-clause-comes g c =
    let at = goal.at.returns-in_default-text_len-clause-comes g c in
    let t = at.After-read_line in
    let is = parsed g at.After-parse_request ∙ c.in-Some.is in
    let alone : text_length c.in-Some.request ≡ None = sym c.text_len.ensures ∙ c.in_default-text_len.is in
    comes_as (incoming.Line c.in-Some.request) c.args.buf.now.text.items (Line c.in-Some.request) (before g t)
    (behind g t) refl
    (takes-so (IsLine c.read_line.new.line) (λ t. Spells t (Line c.in-Some.request)) (before g t) (behind g t)
    c.in-Whole.ensures.reads.0 (λ t eq. spells-line c.read_line.new.line t c.in-Some.request alone
    c.in-Whole.ensures.reads.1 is eq))

pub returns-in-Whole-read_text-clause-comes : goal.returns-in-Whole-read_text-clause-comes
returns-in-Whole-read_text-clause-comes g c =
    let t = (goal.at.returns-in-Whole-read_text-clause-comes g c).After-read_text in
    takes-load c.read_text.new.text.items (last g t) (asked g t) c.in-Whole-read_text.ensures.reads

pub returns-in-Dropped-clause-comes : goal.returns-in-Dropped-clause-comes
returns-in-Dropped-clause-comes g c =
    let t = (goal.at.returns-in-Dropped-clause-comes g c).After-read_text in
    takes-dropped c.read_text.new.text.items (last g t) (asked g t) c.in-Dropped.ensures.reads

pub returns-in-Large-clause-comes : goal.returns-in-Large-clause-comes
returns-in-Large-clause-comes g c =
    let t = (goal.at.returns-in-Large-clause-comes g c).After-read_text in
    takes-large c.read_text.new.text.items (last g t) (asked g t) c.in-Large.ensures.reads

pub returns-in-Cut-read_text-clause-comes : goal.returns-in-Cut-read_text-clause-comes
returns-in-Cut-read_text-clause-comes g c =
    let t = (goal.at.returns-in-Cut-read_text-clause-comes g c).After-read_text in (
      takes-short (last g t) (asked g t) c.in-Cut-read_text.ensures.reads.0,
      c.in-Cut-read_text.ensures.reads.1,
    )

pub returns-in-Failed-read_text-clause-comes : goal.returns-in-Failed-read_text-clause-comes
returns-in-Failed-read_text-clause-comes g c =
    let at = goal.at.returns-in-Failed-read_text-clause-comes g c in
    let t = at.After-read_text in
    takes-so (λ t. (t ≢ []) × (first_request t ≡ None)) (λ t. first_request t ≡ None)
    (before g at.After-read_line) (last g t)
    (takes-short (last g t) (asked g t) c.in-Failed-read_text.ensures.reads) (λ s h. h.1)

pub returns-in-Whole-read_text-clause-unasked : goal.returns-in-Whole-read_text-clause-unasked
returns-in-Whole-read_text-clause-unasked g c =
    no_text_asked g (goal.at.returns-in-Whole-read_text-clause-unasked g c).After-read_text

pub returns-in-Dropped-clause-unasked : goal.returns-in-Dropped-clause-unasked
returns-in-Dropped-clause-unasked g c =
    no_text_asked g (goal.at.returns-in-Dropped-clause-unasked g c).After-read_text

pub returns-in-Large-clause-unasked : goal.returns-in-Large-clause-unasked
returns-in-Large-clause-unasked g c =
    no_text_asked g (goal.at.returns-in-Large-clause-unasked g c).After-read_text

pub returns-in-Cut-read_text-clause-unasked : goal.returns-in-Cut-read_text-clause-unasked
returns-in-Cut-read_text-clause-unasked g c =
    no_text_asked g (goal.at.returns-in-Cut-read_text-clause-unasked g c).After-read_text

pub returns-in-Failed-read_text-clause-unasked : goal.returns-in-Failed-read_text-clause-unasked
returns-in-Failed-read_text-clause-unasked g c =
    no_text_asked g (goal.at.returns-in-Failed-read_text-clause-unasked g c).After-read_text
