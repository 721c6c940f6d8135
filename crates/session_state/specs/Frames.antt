-- Files of commands, each inside of the one that names it, and what they make of the rules.
use Rattle.std.specs.Prelude.{◌+◌, ◌<◌, ◌++◌, ℕ, Bool, false, List, [], ◌∷◌, Option, Some, None}
use Rattle.std.specs.Prelude.{true, Result, Ok, Err, codes, drop, map, nat_lt, if◌then◌else◌, Vec}
use Rattle.std.specs.declared.alloc.Global.{Global}
use Rattle.disk_model.specs.declared.answers.DiskError.{DiskError}
use Rattle.disk_model.specs.declared.answers.DiskError.TheVariants as disk
use Rattle.hook_requests.specs.Places.{CommandPlace}
use Rattle.hooks.specs.Hooks.{PlainCommand}
use Rattle.mail_base.specs.Shown.{utf8_text}
use Rattle.people.specs.Judged.{PlainJudged}
use Rattle.rc_lang.specs.Settings.{fault_of}
use Rattle.rc_lang_words.specs.Faults.{Fault}
use Rattle.rc_lang_words.specs.Words.{PlainLine, lines_of, plain_line}
use Rattle.rc_lang_words.specs.declared.fault.RcFault.{RcFault}
use Rattle.rc_lang_words.specs.declared.fault.RcFault.TheVariants.{NoMemory, NotRead, TooMuchSource}
use Rattle.session_state.specs.declared.commands.Answer.TheVariants as answer
use Rattle.session_state.specs.declared.commands.Obeyed.{Obeyed}
use Rattle.session_state.specs.declared.commands.Obeyed.TheVariants.{Answered, Refused}
use Rattle.session_state.specs.declared.frame.Frame.{Frame}
use Rattle.session_state.specs.declared.frame.Origin.{Origin}
use Rattle.session_state.specs.declared.frame.Origin.TheVariants.{Asked, Default, Hook, Named}
use Rattle.session_state.specs.declared.frame.Origin.TheVariants.{Prompt}
use Rattle.session_state.specs.Commands.{PlainAnswer, Quiet, Ran, ToRead, ToShow, ran, refused}
use Rattle.session_state.specs.Rules.{PlainRules}
use Rattle.session_state.specs.Told.{PlainTold, answer_told, fault_told, line_number, plain_told}
use Rattle.session_state.specs.Told.{unread_told}
use Rattle.session_state.specs.declared.instant.Instant.{Instant}
use Rattle.session_state.specs.declared.told.Told.{Told}

-- a file, why it is read, and how deep it is nested
pub record Place : Type 0 where
  pub file : List ℕ
  pub origin : Origin
  pub depth : ℕ

-- a file with the commands that are left, if it is read
pub record PlainFrame : Type 0 where
  pub place : Place
  pub left : Option (List PlainLine)

-- where a file stands among those that are read
abbrev pub place_of : Frame → Place
place_of frame = record { file = frame.file.items; origin = frame.origin; depth = frame.depth }

-- the commands of a file that were not run yet
abbrev pub commands_left : Frame → List PlainLine
commands_left frame = map plain_line (drop frame.next frame.commands.items)

-- the commands that are left of a file, once it is read
abbrev pub left_of : Bool → List PlainLine → Option (List PlainLine)
left_of is_read commands = if is_read then Some commands else None

-- a file of commands as contracts see it
abbrev pub plain_frame : Frame → PlainFrame
plain_frame frame =
    record { place = place_of frame; left = left_of frame.is_read (commands_left frame) }

-- files of commands as contracts see them
abbrev pub plain_frames : Vec Frame Global → List PlainFrame
plain_frames frames = map plain_frame frames.items

-- a file that is still to be read
abbrev pub unread : List ℕ → Origin → ℕ → PlainFrame
unread file origin depth =
    record { place = record { file = file; origin = origin; depth = depth }; left = None }

-- a file of which these commands are left
abbrev pub with_left : List PlainLine → PlainFrame → PlainFrame
with_left commands frame = record frame { left = Some commands }

-- the text of the file is taken
abbrev pub with_text : List ℕ → PlainFrame → PlainFrame
with_text text frame = with_left (lines_of text) frame

-- Commands, one after the other.

-- the file and the line under which a command of a file stands
abbrev pub command_place : Place → ℕ → CommandPlace
command_place place line =
    record { file = place.file; line = line_number place.origin line }

-- a command as it was read
abbrev pub ran_read : Instant → List PlainJudged → CommandPlace → Option RcFault → PlainLine
    → PlainRules → Ran
ran_read time verdicts at None line rules = ran time verdicts at line.words rules
ran_read time verdicts at (Some fault) line rules = refused (fault_of fault []) rules

-- a line of a file is run, which stands there
abbrev pub ran_line : Instant → List PlainJudged → CommandPlace → PlainLine → PlainRules → Ran
ran_line time verdicts at line rules = ran_read time verdicts at line.fault line rules

-- a file that is nested too deep is not read
abbrev pub judged : ℕ → Result PlainAnswer Fault → Result PlainAnswer Fault
judged depth (Ok (ToRead path)) =
    if nat_lt depth 16 then Ok (ToRead path) else Err (fault_of TooMuchSource [])
judged depth (Ok Quiet) = Ok Quiet
judged depth (Ok (ToShow line)) = Ok (ToShow line)
judged depth (Err fault) = Err fault

-- commands were run up to one that names a file, or to the last one
pub record Half : Type 0 where
  pub rules : PlainRules
  pub told : PlainTold
  pub left : List PlainLine
  pub source : Option (List ℕ)

-- behind a command the others, unless it names a file
abbrev pub behind_line : Place → ℕ → List PlainLine → (PlainRules → PlainTold → Half)
    → PlainRules → PlainTold → Result PlainAnswer Fault → Half
behind_line place line lines more rules told (Ok Quiet) = more rules told
behind_line place line lines more rules told (Ok (ToShow shown)) =
    more rules (answer_told place.origin shown told)
behind_line place line lines more rules told (Ok (ToRead path)) =
    record { rules = rules; told = told; left = lines; source = Some path }
behind_line place line lines more rules told (Err fault) =
    more rules (fault_told place.origin place.file (line_number place.origin line) fault told)

-- the commands of a file are run, up to one that names a file
abbrev pub file_run : Instant → List PlainJudged → Place → List PlainLine → PlainRules → PlainTold
    → Half
file_run time verdicts place [] rules told =
    record { rules = rules; told = told; left = []; source = None }
file_run time verdicts place (line ∷ lines) rules told =
    let came = ran_line time verdicts (command_place place line.line) line rules in
    behind_line place line.line lines (file_run time verdicts place lines) came.rules told
    (judged place.depth came.answer)

-- Files, the one that is read now first.

-- what is set, the files that are not at their ends, and what was told
pub record Script : Type 0 where
  pub rules : PlainRules
  pub frames : List PlainFrame
  pub told : PlainTold

-- where a file comes from that is named there
abbrev pub inner_origin : Origin → Origin
inner_origin Prompt = Asked
inner_origin _ = Named

-- behind a file those around it, unless it names one
abbrev pub behind_file : Place → List PlainFrame → (PlainRules → PlainTold → Script) → Half
    → Option (List ℕ) → Script
behind_file place frames rest half None = rest half.rules half.told
behind_file place frames rest half (Some path) = record {
  rules = half.rules;
  frames = unread path (inner_origin place.origin) (place.depth + 1)
      ∷ record { place = place; left = Some half.left } ∷ frames;
  told = half.told;
}

-- what was run of a file, and what comes behind it
abbrev pub with_half : Place → List PlainFrame → (PlainRules → PlainTold → Script) → Half → Script
with_half place frames rest half = behind_file place frames rest half half.source

-- a file is run, and those behind it, up to one that is still to be read
abbrev pub frame_run : Instant → List PlainJudged → PlainFrame → List PlainFrame
    → (PlainRules → PlainTold → Script) → Option (List PlainLine) → PlainRules → PlainTold
    → Script
frame_run time verdicts frame frames rest None rules told =
    record { rules = rules; frames = frame ∷ frames; told = told }
frame_run time verdicts frame frames rest (Some lines) rules told =
    with_half frame.place frames rest (file_run time verdicts frame.place lines rules told)

-- the commands of these files are run by the verdicts on expressions, up to one that is still to be
-- read
abbrev pub frames_run : Instant → List PlainJudged → List PlainFrame → PlainRules → PlainTold
    → Script
frames_run time verdicts [] rules told = record { rules = rules; frames = []; told = told }
frames_run time verdicts (frame ∷ frames) rules told =
    frame_run time verdicts frame frames (frames_run time verdicts frames) frame.left rules told

-- what was typed at the prompt `:`
abbrev pub prompt_frame : List ℕ → PlainFrame
prompt_frame text = with_text text (unread (codes ":") Prompt 0)

-- commands were typed, which stand before these files
abbrev pub typed_script : Instant → List PlainJudged → List ℕ → List PlainFrame → PlainRules
    → PlainTold → Script
typed_script time verdicts text frames rules told =
    frames_run time verdicts (prompt_frame text ∷ frames) rules told

-- a command that a folder hook gives, under the place where that was given
abbrev pub hook_frame : PlainCommand → PlainFrame
hook_frame hook = with_text hook.command (unread (utf8_text hook.file) (Hook hook.line) 0)

-- commands that folder hooks give were run, which stand before these files
abbrev pub hooked_script : Instant → List PlainJudged → List PlainCommand → List PlainFrame
    → PlainRules → PlainTold → Script
hooked_script time verdicts commands frames rules told =
    frames_run time verdicts (map hook_frame commands ++ frames) rules told

-- commands that message hooks give were run as though they were typed
abbrev pub displaying_script : Instant → List PlainJudged → List (List ℕ) → List PlainFrame
    → PlainRules → PlainTold → Script
displaying_script time verdicts texts frames rules told =
    frames_run time verdicts (map prompt_frame texts ++ frames) rules told

-- What was read, or not.

-- the first file has this text
abbrev pub read_script : Instant → List PlainJudged → List ℕ → List PlainFrame → PlainRules
    → PlainTold → Script
read_script time verdicts text [] rules told = record { rules = rules; frames = []; told = told }
read_script time verdicts text (frame ∷ frames) rules told =
    frames_run time verdicts (with_text text frame ∷ frames) rules told

-- nothing stands at the path
abbrev pub is_missing : DiskError → Bool
is_missing disk.Missing = true
is_missing _ = false

-- what is told where a file was not read
abbrev pub read_fault : DiskError → RcFault
read_fault disk.NoMemory = NoMemory
read_fault _ = NotRead

-- a file that need not be there may be missing
abbrev pub is_quiet : Origin → Bool → Bool
is_quiet Default is_missing = is_missing
is_quiet _ is_missing = false

-- that a file was not read is told
abbrev pub skip_told : Place → DiskError → PlainTold → PlainTold
skip_told place why told =
    if is_quiet place.origin (is_missing why) then told
    else unread_told place.origin place.file (fault_of (read_fault why) []) told

-- the first file was not read, for this cause
abbrev pub skip_script : Instant → List PlainJudged → DiskError → List PlainFrame → PlainRules
    → PlainTold → Script
skip_script time verdicts why [] rules told = record { rules = rules; frames = []; told = told }
skip_script time verdicts why (frame ∷ frames) rules told =
    frames_run time verdicts frames rules (skip_told frame.place why told)

-- what commands have set and told so far, as contracts see it
abbrev pub script_of : PlainRules → Vec Frame Global → Told → Script
script_of rules frames told =
    record { rules = rules; frames = plain_frames frames; told = plain_told told }

-- For the code alone.

-- a file that is to be read is not nested too deep
abbrev pub IsNested : ℕ → Obeyed → Type 0
IsNested depth (Answered answer.Quiet) = Unit {0}
IsNested depth (Answered (answer.Source path)) = depth < 16
IsNested depth (Answered (answer.Show line)) = Unit {0}
IsNested depth (Refused e) = Unit {0}
