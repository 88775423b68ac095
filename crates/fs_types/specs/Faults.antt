-- The number and the word of each refusal, as one table.
use Rattle.std.specs.Prelude.{ℕ, List, codes}
use Rattle.fs_types.specs.declared.fault.Fault.{Fault}
use Rattle.fs_types.specs.declared.fault.Fault.TheVariants.{NoEntry, NotDirectory, IsDirectory, Exists, NotEmpty, NotPermitted, Invalid, NameTooLong, TooBig, BadDescriptor, TooManyOpen, Busy, DirectoryFull, CheckpointsFull, FlashFull, ReadOnly, NothingToUndo, TooOld, NothingToRedo, NoSuchVersion, Discarded, Overflow, ReadFailed, PowerCut, NoMemory, Damaged, NoRecord, BadGeometry, NoAnchors, NoGroup, InGroup}

-- a refusal's number and word
abbrev pub row_of : Fault → ℕ × List ℕ
row_of NoEntry = (1, codes "ENOENT")
row_of NotDirectory = (2, codes "ENOTDIR")
row_of IsDirectory = (3, codes "EISDIR")
row_of Exists = (4, codes "EEXIST")
row_of NotEmpty = (5, codes "ENOTEMPTY")
row_of NotPermitted = (6, codes "EPERM")
row_of Invalid = (7, codes "EINVAL")
row_of NameTooLong = (8, codes "ENAMETOOLONG")
row_of TooBig = (9, codes "EFBIG")
row_of BadDescriptor = (10, codes "EBADF")
row_of TooManyOpen = (11, codes "EMFILE")
row_of Busy = (12, codes "EBUSY")
row_of DirectoryFull = (13, codes "ENOSPC")
row_of CheckpointsFull = (14, codes "ENOSPC")
row_of FlashFull = (15, codes "ENOSPC")
row_of ReadOnly = (16, codes "EROFS")
row_of NothingToUndo = (17, codes "NOTHINGTOUNDO")
row_of TooOld = (18, codes "TOOOLD")
row_of NothingToRedo = (19, codes "NOTHINGTOREDO")
row_of NoSuchVersion = (20, codes "NOSUCHVERSION")
row_of Discarded = (21, codes "DISCARDED")
row_of Overflow = (22, codes "EOVERFLOW")
row_of ReadFailed = (23, codes "EIO")
row_of PowerCut = (24, codes "POWERCUT")
row_of NoMemory = (25, codes "ENOMEM")
row_of Damaged = (26, codes "DAMAGED")
row_of NoRecord = (27, codes "NORECORD")
row_of BadGeometry = (28, codes "BADGEOMETRY")
row_of NoAnchors = (29, codes "NOANCHORS")
row_of NoGroup = (30, codes "NOGROUP")
row_of InGroup = (31, codes "INGROUP")

abbrev pub number_of : Fault → ℕ
number_of fault = (row_of fault).0

abbrev pub word_of : Fault → List ℕ
word_of fault = (row_of fault).1
