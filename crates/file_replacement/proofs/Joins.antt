-- What two calls leave of a folder, one after the other.
use Rattle.std.proofs.Common.{Option, None, Some}
use Rattle.file_replacement.specs.Folder.{Folder, Leads}

pub join : (R S T : Folder → Folder → Type 0) (a b c : Option Folder) → ((f g h : Folder) → R f g → S g h → T f h) → Leads R a b → Leads S b c → Leads T a c
join R S T None None c t r s = s
join R S T None (Some g) c t r s = absurd (cc r)
join R S T (Some f) None c t r s = absurd r
join R S T (Some f) (Some g) None t r s = absurd s
join R S T (Some f) (Some g) (Some h) t r s = t f g h r s
