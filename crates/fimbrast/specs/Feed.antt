-- What a list of bytes leaves in a reader, and what it reports: as the code counts it, and what the counts mean. Assumes
-- nothing.
use Rattle.mtc.specs.declared.reader.MtcSequence.{MtcSequence}
use Rattle.std.specs.Prelude.{ℕ, ◌+◌, ◌/◌, ◌%◌, cond, leb, List, [], ◌∷◌, map, length, ◌≡◌, Option, Some, None}
use Rattle.fast_mtc.specs.Generator.{is_set}
use Rattle.fast_mtc.specs.Reader.{flat_report, refused_from, report_in}
use Rattle.fimbrast.specs.declared.feed.FlatFed.{FlatFed}
use Rattle.mtc.specs.QuarterFrame.{unheard}
use Rattle.mtc.specs.Reader.{after_byte, event_of}
use Rattle.mtc.specs.Stream.{byte, after_calls, events}
use Rattle.mtc.specs.declared.reader.MtcEvent.{MtcEvent}
use Rattle.mtc.specs.declared.reader.MtcReader.{MtcReader}
use Rattle.universal.specs.Refusals.{Answer, gives, refused}

-- ---- as it is counted

-- A reader after some bytes, its reports, those with a discontinuity, the last one, and how many bytes were refused.
pub record Fed : Type 0 where
  pub reader : MtcReader
  pub reports : ℕ
  pub discontinuities : ℕ
  pub last : Option MtcSequence
  pub refused : ℕ

-- A reader that got nothing yet.
abbrev pub unfed : MtcReader → Fed
unfed r = record { reader = r; reports = 0; discontinuities = 0; last = None; refused = 0 }

-- A byte left this reader, and reported this.
unfoldable pub fed_after : Fed → MtcReader → Option MtcSequence → Fed
fed_after f r None =
    record { reader = r; reports = f.reports; discontinuities = f.discontinuities; last = f.last; refused = f.refused }
fed_after f r (Some s) =
    record {
      reader = r;
      reports = f.reports + 1;
      discontinuities = f.discontinuities + cond s.discontinuity 1 0;
      last = Some s;
      refused = f.refused;
    }

-- A byte left this reader, and was refused.
unfoldable pub fed_refused : Fed → MtcReader → Fed
fed_refused f r =
    record {
      reader = r;
      reports = f.reports;
      discontinuities = f.discontinuities;
      last = f.last;
      refused = f.refused + 1;
    }

-- A byte left this reader, and was answered this.
abbrev pub fed_answer : Fed → MtcReader → Answer MtcEvent → Fed
fed_answer f r (gives e) = fed_after f r e.sequence
fed_answer f r (refused k) = fed_refused f r

unfoldable pub fed_by : Fed → ℕ → Fed
fed_by f b = fed_answer f (after_byte f.reader b) (event_of f.reader b)

unfoldable pub fed_all : Fed → List ℕ → Fed
fed_all f [] = f
fed_all f (b ∷ bs) = fed_all (fed_by f b) bs

unfoldable pub fed : MtcReader → List ℕ → Fed
fed r bs = fed_all (unfed r) bs

-- The counts and the last report in numbers; the reader is left in its words.
unfoldable pub flat_fed : Fed → FlatFed
flat_fed f =
    record {
      reports = f.reports;
      discontinuities = f.discontinuities;
      last = flat_report f.last;
      refused = f.refused;
    }

-- A report as a number, counted; its third bit is the discontinuity.
abbrev pub report_counted : FlatFed → ℕ → FlatFed
report_counted f s =
    record {
      reports = f.reports + 1;
      discontinuities = f.discontinuities + s / 4 % 2;
      last = s;
      refused = f.refused;
    }

-- A refused byte, counted.
abbrev pub refusal_counted : FlatFed → FlatFed
refusal_counted f =
    record {
      reports = f.reports;
      discontinuities = f.discontinuities;
      last = f.last;
      refused = f.refused + 1;
    }

-- A byte's number, counted: nothing, a refusal, which is above every event, or a report.
unfoldable pub flat_counted : FlatFed → ℕ → FlatFed
flat_counted f e = cond (is_set (e / 512)) (cond (leb refused_from e) (refusal_counted f) (report_counted f (e / 512))) f

-- ---- what it means

-- 1 for a report.
abbrev pub reports_in : Option MtcSequence → ℕ
reports_in None = 0
reports_in (Some s) = 1

-- 1 for a report with a discontinuity.
abbrev pub jump : Option MtcSequence → ℕ
jump None = 0
jump (Some s) = cond s.discontinuity 1 0

-- The later of two reports, where it is one.
abbrev pub later_report : Option MtcSequence → Option MtcSequence → Option MtcSequence
later_report l None = l
later_report l (Some s) = Some s

-- A number for each event, summed.
unfoldable pub total : (Option MtcSequence → ℕ) → List MtcEvent → ℕ
total n [] = 0
total n (e ∷ es) = n e.sequence + total n es

-- The last report among events, or the one before them.
unfoldable pub last_report : Option MtcSequence → List MtcEvent → Option MtcSequence
last_report l [] = l
last_report l (e ∷ es) = last_report (later_report l e.sequence) es

-- The reader is the one that the calls leave, the counts and the last report are those of the events that they give, as many bytes are
-- refused as are not heard, and the last report is whole in its number and that reader.
pub record Feeds (r : MtcReader) (bs : List ℕ) : Type 0 where
  pub reader : (fed r bs).reader ≡ after_calls r (map byte bs)
  pub reports : (fed r bs).reports ≡ total reports_in (events r bs)
  pub discontinuities : (fed r bs).discontinuities ≡ total jump (events r bs)
  pub last : (fed r bs).last ≡ last_report None (events r bs)
  pub refused : (fed r bs).refused ≡ length (unheard bs)
  pub labels : report_in (fed r bs).reader (flat_report (fed r bs).last) ≡ (fed r bs).last
