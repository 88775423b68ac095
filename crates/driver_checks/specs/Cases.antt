-- The cases of a checklist: the word of each, and what is so where it ends well.
use Rattle.std.specs.Prelude.{◌≡◌, ℕ, ◌+◌, ◌-◌, ◌*◌, List, codes}
use Rattle.driver_checks.specs.declared.case.Case.{Case}
use Rattle.driver_checks.specs.declared.case.Case.TheVariants.{Sizes, Fresh, ReadBack, InOrder, OneBlock, FailedProgram, FailedErase, CutProgram, CutErase, Restart, Ends, Neighbours}
use Rattle.driver_checks.specs.declared.scene.Place.{Place}
use Rattle.driver_checks.specs.declared.scene.Place.TheVariants.{First, Last}
use Rattle.driver_checks.specs.declared.scene.Scene.{Scene}
use Rattle.driver_checks.specs.declared.expected.Expected.{Expected}
use Rattle.driver_checks.specs.declared.expected.Expected.TheVariants.{Erased, Filled, Spoilt, Left}
use Rattle.driver_checks.specs.Driver.{Driver}
use Rattle.driver_checks.specs.Scenes.{IsShown}

abbrev pub case_word : Case → List ℕ
case_word Sizes = codes "sizes"
case_word Fresh = codes "fresh"
case_word ReadBack = codes "read-back"
case_word InOrder = codes "in-order"
case_word OneBlock = codes "one-block"
case_word FailedProgram = codes "failed-program"
case_word FailedErase = codes "failed-erase"
case_word CutProgram = codes "cut-program"
case_word CutErase = codes "cut-erase"
case_word Restart = codes "restart"
case_word Ends = codes "ends"
case_word Neighbours = codes "neighbours"

-- each case has bytes of its own
abbrev pub round_of : Case → ℕ
round_of Sizes = 0
round_of Fresh = 1
round_of ReadBack = 2
round_of InOrder = 3
round_of OneBlock = 4
round_of FailedProgram = 5
round_of FailedErase = 6
round_of CutProgram = 7
round_of CutErase = 8
round_of Restart = 9
round_of Ends = 10
round_of Neighbours = 11

-- a page of the case's own block, its other pages, and the two blocks beside it
abbrev pub scene_from : Place → Expected → Expected → Expected → Scene
scene_from place page rest sides = record { place = place; page = page; rest = rest; sides = sides }

-- what the blocks show at the end of a case
abbrev pub scene_of : Case → Scene
scene_of Sizes = scene_from First Erased Erased Erased
scene_of Fresh = scene_from First Erased Erased Erased
scene_of ReadBack = scene_from First (Filled 2) Erased Erased
scene_of InOrder = scene_from First (Filled 3) (Filled 3) Erased
scene_of OneBlock = scene_from First Erased Erased (Filled 4)
scene_of FailedProgram = scene_from Last Spoilt (Filled 5) (Filled 5)
scene_of FailedErase = scene_from First (Left 6) (Left 6) (Filled 6)
scene_of CutProgram = scene_from Last (Left 7) (Filled 7) (Filled 7)
scene_of CutErase = scene_from First (Left 8) (Left 8) (Filled 8)
scene_of Restart = scene_from First (Filled 9) Erased (Filled 9)
scene_of Ends = scene_from First Erased Erased (Filled 10)
scene_of Neighbours = scene_from First (Filled 11) (Filled 11) (Filled 11)

-- the second block of the area between its neighbours shows the scene of a case
abbrev pub ShowsBeside : Case → Driver → Type 0
ShowsBeside case d = IsShown (scene_of case) d.area d.area.first (d.area.first + 1) (d.area.first + 2) d.pages

-- the last block of the area shows it, with the first and the second one
abbrev pub ShowsAtEnds : Case → Driver → Type 0
ShowsAtEnds case d = IsShown (scene_of case) d.area d.area.first (d.area.first + (d.area.count - 1)) (d.area.first + 1) d.pages

-- what is so of a driver at the end of a case that it passed
abbrev pub Passes : Case → Driver → Type 0
Passes Sizes d = d.told ≡ d.area.sizes
Passes Fresh d = ShowsBeside Fresh d
Passes ReadBack d = ShowsBeside ReadBack d
Passes InOrder d = ShowsBeside InOrder d
Passes OneBlock d = ShowsBeside OneBlock d
Passes FailedProgram d = ShowsBeside FailedProgram d
Passes FailedErase d = ShowsBeside FailedErase d
Passes CutProgram d = ShowsBeside CutProgram d
Passes CutErase d = ShowsBeside CutErase d
Passes Restart d = ShowsBeside Restart d
Passes Ends d = ShowsAtEnds Ends d
Passes Neighbours d = ShowsBeside Neighbours d

-- a case asks at most so many operations of a flash with blocks of so many pages
abbrev pub most_asked : ℕ → ℕ
most_asked pages = 255 * (6 * pages + 5) + 8 * pages + 8
