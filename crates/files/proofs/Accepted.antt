-- A file is accepted if and only if it is right: its header, its list and its degree.
use Prim.Native.Nat.{ℕ}
use Rattle.std.specs.Prelude.{Result, Ok, Err}
use mathlib.Core.Path.{◌≡◌, refl, sym, ap, ◌∙◌}
use mathlib.Core.Logic.{◌↔◌}
use mathlib.Core.List.{List}
use native.Mathlib.Omega.{arith}
use lib.ListN.{length}
use Rattle.outcomes.specs.Outcome.{Outcome, done, refused, and_then}
use Rattle.outcomes.specs.Refusal.{says}
use Rattle.outcomes.specs.declared.Refusal.{Refusal}
use Rattle.runs.specs.Runs.{count_of}
use Rattle.runs.specs.Check.{max_runs}
use Rattle.outcomes.proofs.Judging.{done_refused}
use Rattle.runs.proofs.Sequences.{accepted_sequence, sequence_accepted}
use Rattle.files.specs.Words.{word_of, header_of, runs_of}
use Rattle.files.specs.File.{file_of}
use Rattle.files.specs.Right.{RightHeader, RightFile}
use Rattle.files.specs.Parts.{heading_of, listed_of, body_of}
use Rattle.files.specs.declared.Header.{Header}
use Rattle.files.proofs.Reading.{runs_count}
use Rattle.files.proofs.Heading.{heading_right, heading_laid, right_heading}
use Rattle.files.proofs.Bodies.{degree_right, listed_checked, listed_done, body_is, file_is, file_read}

module _ (bytes : List ℕ) where
  -- the list of a file whose header is right has as many starts and images as that says
  pub right_count : RightHeader bytes → (count_of (runs_of bytes) ≡ word_of bytes 1) × (length (runs_of bytes).images ≡ word_of bytes 1)
  right_count r = runs_count bytes (word_of bytes 1) (omega (arith, r.byte_count))

  -- an accepted file's header was read, and then its body
  steps : (h : Header) → file_of max_runs bytes ≡ done h → (done (header_of bytes) ≡ heading_of max_runs bytes) × (body_of bytes ≡ done h)
  unfolding and_then
  steps h e = go (heading_of max_runs bytes) refl (sym (file_is max_runs bytes) ∙ e)
    where
      go : (o : Outcome Header) → heading_of max_runs bytes ≡ o → and_then o (λ g. body_of bytes) ≡ done h
          → (done (header_of bytes) ≡ heading_of max_runs bytes) × (body_of bytes ≡ done h)
      go (done g) z w = (sym (z ∙ ap done (heading_right max_runs bytes g (sym z)).2), w)
      go (refused k p) z w = absurd (done_refused h k p (sym w))

  -- which comes to the tests of its list and of its degree
  module _ (read : done (header_of bytes) ≡ heading_of max_runs bytes) where
    body : listed_of (header_of bytes) (runs_of bytes) ≡ body_of bytes
    body = body_is max_runs bytes (header_of bytes) (heading_laid max_runs bytes (header_of bytes) read) (omega arith) (runs_of bytes) refl

  accepted_right : (h : Header) → file_of max_runs bytes ≡ done h → (h ≡ header_of bytes) × RightFile bytes
  accepted_right h e =
      let s = steps h e in
      let t = listed_done (header_of bytes) (runs_of bytes) h (body s.0 ∙ s.1) in
      let list = accepted_sequence (word_of bytes 0) (runs_of bytes) t.1 in (
        t.0,
        record {
          header = (heading_right max_runs bytes (header_of bytes) s.0).0;
          list = list.1;
          few = list.0;
          low = t.2;
          high = t.3;
        },
      )

  right_accepted : RightFile bytes → done (header_of bytes) ≡ file_of max_runs bytes
  right_accepted r =
      let read = right_heading max_runs bytes r.header (omega (arith, r.few, (right_count r.header).0)) in
      let checked = sequence_accepted (word_of bytes 0) (runs_of bytes) r.few r.list in
      degree_right (header_of bytes) r.low r.high
      ∙ listed_checked (header_of bytes) (runs_of bytes) (sym checked)
      ∙ body read
      ∙ file_read max_runs bytes (header_of bytes) read

  -- exactly the right files are accepted, and what is answered is what their header says
  pub file_accepted : (h : Header) → (file_of max_runs bytes ≡ done h) ↔ ((h ≡ header_of bytes) × RightFile bytes)
  file_accepted h = (accepted_right h, λ r. sym (right_accepted r.1) ∙ ap done (sym r.0))

  -- the same of the answer that `check_file` promises
  pub answer_right : (a : Result Header Refusal) → says a ≡ file_of max_runs bytes → (h : Header) → (a ≡ Ok h) ↔ ((h ≡ header_of bytes) × RightFile bytes)
  answer_right a e h = (λ q. accepted_right h (sym e ∙ ap says q), λ r. go a (e ∙ (file_accepted h).1 r))
    where
      go : (b : Result Header Refusal) → says b ≡ done h → b ≡ Ok h
      go (Ok g) q = let z : g ≡ h = cc in ap Ok z
      go (Err f) q = absurd (done_refused h _ _ (sym q))
