-- Members are read from their own names alone.
use Rattle.std.proofs.Common.{◌≡◌, ℕ, Ok, List, sym, ap, ◌∙◌, rules}
use Rattle.asm_value.specs.declared.value.Value.TheVariants.{Member}
use Rattle.asm_value.specs.declared.value.Value.TheViews.{out-Value}
use Rattle.asm_value.specs.declared.domain.Domain.TheVariants.{Enum, Abstract}
use Rattle.asm_value.specs.declared.domain.Domain.TheViews.{the_lemmas}
use Rattle.asm_value.specs.declared.domain.DomainInfo.{DomainInfo}
use Rattle.asm_value.specs.declared.domain.Live.{Live}
use Rattle.asm_value.specs.Members.{live_indexes}
use Rattle.asm_value.proofs.MemberLists.{out_member}
use Rattle.asm_portable.specs.declared.port.Port.{Port}
use Rattle.asm_portable.specs.declared.port.Port.TheVariants as ports
use Rattle.asm_portable.specs.Values.{member_name}
use Rattle.asm_portable.specs.Reading.{literals_in, member_read, value_of}
use Rattle.asm_portable.proofs.ReadingLaws.{value_of-out}
use Rattle.asm_portable.proofs.Members.{member_from}

value_of-Enum : (domains : List DomainInfo) (live : Live) (d : ℕ) (t : Port)
    → value_of domains live (Enum d) t ≡ member_read domains d (literals_in domains d) t
value_of-Enum domains live d t = search (rules, value_of-out domains live (Enum d) t, the_lemmas)

value_of-Abstract : (domains : List DomainInfo) (live : Live) (d : ℕ) (t : Port)
    → value_of domains live (Abstract d) t ≡ member_read domains d (live_indexes live d) t
value_of-Abstract domains live d t =
    search (rules, value_of-out domains live (Abstract d) t, the_lemmas)

same_member : (d e i j : ℕ) → Member e i ≡ Member d j → (e ≡ d) × (i ≡ j)
same_member d e i j h =
    let levels = sym (out_member e i) ∙ ap out-Value h ∙ out_member d j in
    (cc, cc)

own_name : (domains : List DomainInfo) (d e i : ℕ) (indexes : List ℕ) (t : Port)
    → member_read domains d indexes t ≡ Ok (Member e i)
    → (e ≡ d) × (t ≡ ports.Text (member_name domains d i))
own_name domains d e i indexes t h =
    let m = member_from domains d indexes t (Member e i) h in
    let same = same_member d e i m.0 m.1 in
    (same.0, m.3 ∙ ap (λ j. ports.Text (member_name domains d j)) (sym same.1))

pub literal_own : (domains : List DomainInfo) (live : Live) (d e i : ℕ) (t : Port)
    → value_of domains live (Enum d) t ≡ Ok (Member e i)
    → (e ≡ d) × (t ≡ ports.Text (member_name domains d i))
literal_own domains live d e i t h =
    own_name domains d e i (literals_in domains d) t (sym (value_of-Enum domains live d t) ∙ h)

pub member_own : (domains : List DomainInfo) (live : Live) (d e i : ℕ) (t : Port)
    → value_of domains live (Abstract d) t ≡ Ok (Member e i)
    → (e ≡ d) × (t ≡ ports.Text (member_name domains d i))
member_own domains live d e i t h =
    own_name domains d e i (live_indexes live d) t (sym (value_of-Abstract domains live d t) ∙ h)
