pub mod SideLimit
