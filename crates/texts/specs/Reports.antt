-- What is printed of a text. Assumes nothing.
use Rattle.std.specs.Prelude.{◌≡◌, ℕ, List, [], ◌∷◌, ◌++◌, replicate, Some, None, Ok, Err, codes, Option, Result, ◌≢◌}
use Rattle.records.specs.declared.fault.Fault.{Fault}
use Rattle.records.specs.declared.record.Kind.TheVariants.{Empty}
use Rattle.records.specs.Faults.{refusal_text, told}
use Rattle.records.specs.Written.{written}
use Rattle.texts.specs.Contents.{Contents}
use Rattle.texts.specs.Readings.{Outcome}
use Rattle.texts.specs.declared.lists.Counts.{Counts}

abbrev pub quota_text : Option ℕ → List ℕ
quota_text None = codes "none"
quota_text (Some k) = written k

-- the counts of an accepted text as they are printed
abbrev pub counts_text : Counts → List ℕ
counts_text n =
    codes "accepted policies=" ++ (written n.policies ++ (codes " bads=" ++ (written n.bads ++ (codes " edges=" ++ (written n.edges ++ (codes " quota=" ++ (quota_text n.quota ++ (codes " marks=" ++ (written n.marks ++ (codes " nodes=" ++ (written n.nodes ++ (codes " defs=" ++ (written n.defs ++ (codes " tariffs=" ++ written n.tariffs))))))))))))))

-- the one line that a text gets
abbrev pub answer_text : Result Counts Fault → List ℕ
answer_text (Ok counts) = counts_text counts ++ (10 ∷ [])
answer_text (Err fault) = refusal_text (told fault) ++ (10 ∷ [])

-- empty lists, each as long as its kind has lines at most
abbrev pub blank : Contents
blank = record {
  policies = replicate 8 (record { policy = 0; states = 0; start = 0 });
  bads = replicate 64 (record { policy = 0; state = 0 });
  edges = replicate 512 (record { policy = 0; from = 0; event = 0; to = 0 });
  marks = replicate 256 (record { event = 0 });
  nodes = replicate 128 (record { node = 0; kind = Empty; a = 0; b = 0 });
  defs = replicate 32 (record { def = 0; node = 0 });
  tariffs = replicate 256 (record { event = 0; cost = 0 });
}

-- the answer is that of a reading into such lists, which are long enough for every text
pub record Tallied (text : List ℕ) (r : Result Counts Fault) : Type 0 where
  pub lists : Contents
  pub outcome : Outcome text blank lists r
  pub only : (other : Contents) (answer : Result Counts Fault) → Outcome text blank other answer → answer ≡ r
  pub never_short : (fault : Fault) → r ≡ Err fault → (told fault).number ≢ 7

-- these bytes are the line of that answer
pub record Reported (text : List ℕ) (bytes : List ℕ) : Type 0 where
  pub answer : Result Counts Fault
  pub tallied : Tallied text answer
  pub is : bytes ≡ answer_text answer
