-- Which process record a word of eight bytes shows, and which envelope a header's two words show: the rules read the
-- same off an image's bytes (machine/specs/Image).
use Rattle.std.specs.Prelude.{ℕ, ◌+◌, ◌*◌, ◌/◌, ◌%◌, ◌^◌, ◌≤◌, ◌<◌, ◌≡◌, Bool, eqb}
use Rattle.machine.specs.declared.Envelope.{Envelope}
use Rattle.machine.specs.declared.Process.{Process}
use Rattle.machine.specs.Image.{pair_of, process_from}
use Rattle.record.specs.declared.header.Header.{Header}

-- ---- a record: bytes 0 to 2, byte 3, and the note

abbrev pub stage_of : ℕ → ℕ
stage_of w = w % 256

abbrev pub flags_of : ℕ → ℕ
flags_of w = w / 256 % 256

abbrev pub requests_of : ℕ → ℕ
requests_of w = w / 65536 % 256

abbrev pub spare_of : ℕ → ℕ
spare_of w = w / 16777216 % 256

abbrev pub note_of : ℕ → ℕ
note_of w = w / 4294967296

-- the record that a word shows
abbrev pub shown_process : ℕ → Process
shown_process w = process_from (stage_of w) (flags_of w) (requests_of w) (note_of w)

-- bits that no rule names are 0
pub record Tidy (w : ℕ) : Type 0 where
  pub flags : flags_of w ≤ 7
  pub spare : spare_of w ≡ 0
  pub note : note_of w < 2 ^ 32

-- a flag and pairs of bits, full the lower one: asked by the right, asked itself, marked
abbrev pub have_of : ℕ → Bool
have_of w = eqb (w / 256 % 2) 1

abbrev pub asked_of : ℕ → ℕ
asked_of w = w / 65536 % 4

abbrev pub itself_of : ℕ → ℕ
itself_of w = w / 262144 % 4

abbrev pub marks_of : ℕ → ℕ
marks_of w = w / 1048576 % 4

-- ---- a header: its status as a bit, and the envelope that it shows

abbrev pub full_of : ℕ → Bool
full_of w = eqb (w / 256 % 2) 1

abbrev pub shown_envelope : Header → Envelope
shown_envelope h =
    record {
      full = eqb (h.word / 256 % 256) 1;
      marker = pair_of (h.word / 65536 % 256) 0;
      marked = record { full = h.word / 16777216 % 256; empty = h.word / 4294967296 };
      message = h.message;
    }

-- status and markers in range, and the bits that no rule names 0
pub record TidyHeader (h : Header) : Type 0 where
  pub status : h.word / 256 % 256 ≤ 1
  pub markers : h.word / 65536 % 256 ≤ 3
  pub counts : h.word / 4294967296 < 256
  pub message : h.message < 2 ^ 32

-- a pair's bits, each as one in its count
abbrev pub counted_as : ℕ → ℕ
counted_as pair = pair % 2 * 16777216 + pair / 2 * 4294967296
