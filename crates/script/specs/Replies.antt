-- What is printed for an answer.
use Rattle.std.specs.Prelude.{ℕ, ◌/◌, ◌%◌, ◌==◌, Bool, true, false, Option, Some, None, List, [], ◌∷◌, ◌++◌, length, codes, decimal, if◌then◌else◌}
use Rattle.std.specs.Fmt.{digit_glyph}
use Rattle.std.specs.List.{flat_map, enumerate_from}
use Rattle.fs_types.specs.Faults.{number_of, word_of}
use Rattle.fs_types.specs.declared.fault.Fault.{Fault}
use Rattle.fs_types.specs.declared.call.Reply.{Reply}
use Rattle.fs_types.specs.declared.call.Reply.TheVariants.{Empty, Fd, Bytes, Count, Stat as status, Names, Entries, Log, Df, Step}
use Rattle.fs_types.specs.declared.call.Stat.{Stat}
use Rattle.fs_types.specs.declared.call.Stat.TheVariants.{Dir, File}
use Rattle.script.specs.Words.{is_plain}
use Rattle.fs_types.specs.declared.event.Answer.{Answer}
use Rattle.fs_types.specs.declared.event.Answer.TheVariants.{Done, Refused, Mounted, Unmounted}
use Rattle.script.specs.declared.line_answer.LineAnswer.{LineAnswer}
use Rattle.script.specs.declared.line_answer.LineAnswer.TheVariants.{Told, Space, Forgot, Syntax}
use Rattle.script.specs.declared.space_line.CheckpointLine.{CheckpointLine}
use Rattle.script.specs.declared.space_line.SpaceLine.{SpaceLine}
use Rattle.script.specs.declared.space_line.VersionLine.{VersionLine}

-- the two hexadecimal digits of a byte
abbrev pub hex_pair : Bool → ℕ → List ℕ
hex_pair upper b = digit_glyph upper (b / 16) ∷ digit_glyph upper (b % 16) ∷ []

-- data in lower-case digits
abbrev pub data_text : List ℕ → List ℕ
data_text [] = codes "data -"
data_text (b ∷ bytes) = codes "data " ++ flat_map (hex_pair false) (b ∷ bytes)

-- a byte of a name: `%` and two upper-case digits for one that does not stand for itself
abbrev pub escaped_byte : ℕ → List ℕ
escaped_byte b = if is_plain b then b ∷ [] else 37 ∷ hex_pair true b

abbrev pub escaped : List ℕ → List ℕ
escaped name = flat_map escaped_byte name

-- a name with a space before it, and `/` after a directory's
abbrev pub entry_text : List ℕ × Bool → List ℕ
entry_text entry = 32 ∷ escaped entry.0 ++ (if entry.1 then 47 ∷ [] else [])

-- a name with a space before it, and what stands there: a directory's `/` and how many entries it has, or how many
-- bytes a file has
abbrev pub standing_text : List ℕ × Stat → List ℕ
standing_text (name, Dir entries) = 32 ∷ escaped name ++ codes "/ " ++ decimal entries
standing_text (name, File size) = 32 ∷ escaped name ++ codes " " ++ decimal size

-- a serial with a space before it, and `*` before the present one
abbrev pub marked_serial : Bool → ℕ → List ℕ
marked_serial is_present serial = 32 ∷ (if is_present then 42 ∷ [] else []) ++ decimal serial

-- a place and the serial there
abbrev pub serial_text : ℕ → ℕ × ℕ → List ℕ
serial_text cursor row = marked_serial (row.0 == cursor) row.1

abbrev pub name_text : List ℕ → List ℕ
name_text name = 32 ∷ escaped name

abbrev pub log_text : ℕ → Bool → List ℕ → ℕ → List (List ℕ) → List ℕ
log_text next dropped versions cursor checkpoints =
    codes "log next " ++ decimal next ++ codes " dropped " ++ (if dropped then codes "1" else codes "0")
    ++ codes " versions" ++ flat_map (serial_text cursor) (enumerate_from 0 versions)
    ++ codes " checkpoints" ++ flat_map name_text checkpoints

abbrev pub df_text : ℕ → ℕ → ℕ → ℕ → List ℕ
df_text blocks bad free anchors =
    codes "df data " ++ decimal blocks ++ codes " bad " ++ decimal bad
    ++ codes " free " ++ decimal free ++ codes " anchors " ++ decimal anchors

abbrev pub stat_text : Stat → List ℕ
stat_text (Dir entries) = codes "dir " ++ decimal entries
stat_text (File size) = codes "file " ++ decimal size

abbrev pub reply_text : Reply → List ℕ
reply_text Empty = codes "ok"
reply_text (Fd descriptor) = codes "fd " ++ decimal descriptor
reply_text (Bytes bytes) = data_text bytes
reply_text (Count count) = codes "wrote " ++ decimal count
reply_text (status stat) = stat_text stat
reply_text (Names names) = codes "entries " ++ decimal (length names) ++ flat_map entry_text names
reply_text (Entries entries) = codes "entries " ++ decimal (length entries) ++ flat_map standing_text entries
reply_text (Log next dropped versions cursor checkpoints) = log_text next dropped versions cursor checkpoints
reply_text (Df blocks bad free anchors) = df_text blocks bad free anchors
reply_text (Step done) = if done then codes "done" else codes "more"

-- a refusal by its word and its number
abbrev pub refusal_text : Fault → List ℕ
refusal_text fault = codes "err " ++ word_of fault ++ codes " " ++ decimal (number_of fault)

-- what is printed for the answer to an event
abbrev pub told_text : Answer → List ℕ
told_text (Done reply) = reply_text reply
told_text (Refused fault) = refusal_text fault
told_text Mounted = codes "mounted"
told_text Unmounted = codes "unmounted"

-- what forgetting the versions up to one frees, where that may be
abbrev pub frees_text : Option ℕ → List ℕ
frees_text None = []
frees_text (Some frees) = codes " frees " ++ decimal frees

-- what a version keeps
abbrev pub version_text : VersionLine → List ℕ
version_text version =
    codes " @" ++ decimal version.serial ++ frees_text version.frees ++ codes " alone " ++ decimal version.alone
    ++ (if version.is_present then codes " present" else [])

-- what a checkpoint keeps
abbrev pub checkpoint_text : CheckpointLine → List ℕ
checkpoint_text checkpoint = codes " =" ++ escaped checkpoint.name ++ codes " alone " ++ decimal checkpoint.alone

-- what each version and each checkpoint keeps
abbrev pub space_text : SpaceLine → List ℕ
space_text space = codes "space" ++ flat_map version_text space.versions ++ flat_map checkpoint_text space.checkpoints

-- what is printed for the answer to a line, without its LF
abbrev pub text_of : LineAnswer → List ℕ
text_of (Told answer) = told_text answer
text_of (Space space) = space_text space
text_of (Forgot count) = codes "forgot " ++ decimal count
text_of Syntax = codes "err SYNTAX"
