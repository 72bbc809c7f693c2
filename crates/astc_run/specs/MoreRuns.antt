-- How any command of the program ends, by its words: those over parts and over a texture of another
-- encoder among them.
use Rattle.std.specs.Prelude.{◌≡◌, ⊤, ℕ, Bool, true, false, List, [], ◌∷◌, drop, slice_index_or, Option, Some, None, Result, Ok, Err}
use Rattle.astc_words.specs.declared.fault.UsageFault.{UsageFault}
use Rattle.astc_words.specs.declared.more_jobs.MoreJob.{MoreJob}
use Rattle.astc_words.specs.declared.more_jobs.MoreJob.TheVariants.{Part, Join, Polish}
use Rattle.astc_words.specs.declared.more.MoreCommand.{MoreCommand}
use Rattle.astc_words.specs.More.{more_command_of, more_job_of}
use Rattle.adviser_pool.specs.Advisers.{AdviserState}
use Rattle.pam_image.specs.Reading.{images_of}
use Rattle.part_file.specs.declared.fault.PartFault.{PartFault}
use Rattle.part_file.specs.declared.fault.PartFault.TheVariants.{WholeTexture, Picture, NoPart as IsNoPart, Header, OtherHeader, BadPlace, ShortData, TrailingBytes}
use Rattle.outcomes.specs.declared.outcome.Outcome.{Outcome}
use Rattle.outcomes.specs.declared.outcome.Outcome.TheVariants.{Done, Usage}
use Rattle.outcomes.specs.Outcomes.{image_fault_of, status_of as common_status}
use Rattle.outcomes.specs.Scenes.{Scene}
use Rattle.outcomes.specs.Ends.{Ends}
use Rattle.outcomes.specs.ManyEnds.{EndsOver}
use Rattle.packing.specs.Packed.{want_of}
use Rattle.parting.specs.declared.fault.JoinFault.{JoinFault}
use Rattle.parting.specs.declared.fault.JoinFault.TheVariants.{NoPart, OtherTexture, SamePlace, MissingPlace}
use Rattle.parting.specs.declared.joining.JoinEnd.{JoinEnd}
use Rattle.parting.specs.declared.joining.JoinEnd.TheVariants.{Refused, Ended}
use Rattle.parting.specs.Parts.{MakesPart, BeginsPart}
use Rattle.parting.specs.Joins.{parts_in, Joins, BeginsJoin}
use Rattle.polishing.specs.Polished.{inputs_in, Polishes, BeginsPolish, fault_of}
use Rattle.astc_run.specs.Runs.{RunEnds}
use Rattle.astc_run.specs.declared.outcome.MoreOutcome.{MoreOutcome}
use Rattle.astc_run.specs.declared.outcome.MoreOutcome.TheVariants.{Common, Parts}

-- ---- outcomes

-- the end of a join, as one of any command
abbrev pub join_outcome : JoinEnd → MoreOutcome
join_outcome (Refused fault) = Parts fault
join_outcome (Ended outcome) = Common outcome

-- why the files are not the parts of one texture, if the outcome speaks of that
abbrev pub parts_fault_of : MoreOutcome → Option JoinFault
parts_fault_of (Parts fault) = Some fault
parts_fault_of (Common outcome) = None

-- the outcome, if it is one of other commands; Done stands for a fault of parts
abbrev pub common_of : MoreOutcome → Outcome
common_of (Parts fault) = Done
common_of (Common outcome) = outcome

-- the exit status: 12 for a wrong prefix, 13 for too few bytes, 14 for too many
abbrev pub part_status : PartFault → ℕ
part_status WholeTexture = 12
part_status Picture = 12
part_status (IsNoPart place) = 12
part_status (Header fault) = 12
part_status (OtherHeader place) = 12
part_status (BadPlace place count) = 12
part_status (ShortData size) = 13
part_status TrailingBytes = 14

-- the exit status: that of a file that is not a part, or 15 to 17 for parts that do not belong
-- together
abbrev pub join_status : JoinFault → ℕ
join_status (NoPart word fault) = part_status fault
join_status (OtherTexture word) = 15
join_status (SamePlace word place) = 16
join_status (MissingPlace place) = 17

-- the exit status: up to 11 that of other commands, from 12 on that of a join's fault
abbrev pub status_of : MoreOutcome → ℕ
status_of (Common outcome) = common_status outcome
status_of (Parts fault) = join_status fault

-- ---- ends

-- A job over the files of its words: of a part words 1 and 2, of a join word 1 and those from 2 on,
-- of a polish words 1 to 3. Only a join ends with a fault of parts.
abbrev pub MoreJobEnds : MoreJob → List (List ℕ) → Scene → Scene → MoreOutcome → Type 0
MoreJobEnds (Part job) words before after (Common outcome) =
    Ends (images_of (want_of job.pack)) image_fault_of (MakesPart job) (BeginsPart job)
    (slice_index_or words 1 []) (slice_index_or words 2 []) before after outcome
MoreJobEnds Join words before after outcome =
    EndsOver (parts_in (drop 2 words)) Joins BeginsJoin (slice_index_or words 1 []) before after
    (parts_fault_of outcome) (common_of outcome)
MoreJobEnds (Polish job) words before after (Common outcome) =
    EndsOver (inputs_in (slice_index_or words 1 []) (slice_index_or words 2 [])) (Polishes job)
    (BeginsPolish job) (slice_index_or words 3 []) before after (fault_of outcome) outcome
MoreJobEnds job words before after (Parts fault) = ⊥

-- the words' fault exactly if they have one, else the end of their job
abbrev pub MoreEndsAs : Result MoreJob UsageFault → List (List ℕ) → Scene → Scene → MoreOutcome
    → Type 0
MoreEndsAs (Ok job) words before after outcome = MoreJobEnds job words before after outcome
MoreEndsAs (Err fault) words before after outcome = outcome ≡ Common (Usage fault)

-- the end of a command over parts or over a texture of another encoder, by its words
abbrev pub MoreEnds : List (List ℕ) → Scene → Scene → MoreOutcome → Type 0
MoreEnds words before after outcome = MoreEndsAs (more_job_of words) words before after outcome

-- the outcome is that the words have a fault
abbrev pub IsMoreUsage : MoreOutcome → Type 0
IsMoreUsage (Common (Usage fault)) = ⊤
IsMoreUsage outcome = ⊥

-- whether the words begin with a command over parts or over a texture of another encoder
abbrev pub is_one_more : Option MoreCommand → Bool
is_one_more (Some command) = true
is_one_more None = false

-- the first word is that of such a command
abbrev pub are_more : List (List ℕ) → Bool
are_more [] = false
are_more (word ∷ words) = is_one_more (more_command_of word)

-- the end of such a command, or else of a run of the others
abbrev pub AllEndsAs : Bool → List (List ℕ) → Bool → List AdviserState → List AdviserState → Scene
    → Scene → MoreOutcome → Type 0
AllEndsAs true words fits advisers_before advisers_after before after outcome =
    MoreEnds words before after outcome
AllEndsAs false words fits advisers_before advisers_after before after (Common outcome) =
    RunEnds words fits advisers_before advisers_after before after outcome
AllEndsAs false words fits advisers_before advisers_after before after (Parts fault) = ⊥

-- the end of any command, by its words
abbrev pub AllEnds : List (List ℕ) → Bool → List AdviserState → List AdviserState → Scene → Scene
    → MoreOutcome → Type 0
AllEnds words fits advisers_before advisers_after before after outcome =
    AllEndsAs (are_more words) words fits advisers_before advisers_after before after outcome
